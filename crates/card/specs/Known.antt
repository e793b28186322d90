-- What is known of one input in C's hands, as numbers: of any card by what it holds, after calls in a row by what has
-- happened. Cited by `src/known.rt` and `src/exports.rt`. Assumes nothing.
use Rattle.std.specs.Prelude.{ℕ, cond, List, [], ◌∷◌, ltb}
use Rattle.numbers.specs.declared.profile.Profile.{Profile}
use Rattle.numbers.specs.Inputs.{last_input}
use Rattle.numbers.specs.Kind.{flag}
use Rattle.numbers.specs.Profile.{paper_number}
use Rattle.numbers.specs.Refusal.{accepted, input_out_of_range}
use Rattle.selector.specs.declared.Selector.{Selector}
use Rattle.status.specs.declared.Status.{Status}
use Rattle.status.specs.Kept.{input_status}

-- when its timer and its frame end
abbrev pub ends_of : Status → List ℕ
ends_of status = status.timer ∷ status.frame ∷ []

-- the number of the refusal, qualities by their numbers on paper, yes is 1 and no is 0
abbrev pub known_of : Profile → Status → List ℕ
known_of profile status =
    accepted ∷ paper_number profile status.raw ∷ paper_number profile status.passed ∷ flag status.eligible ∷
    flag status.signal ∷
    status.priority.0 ∷
    flag status.locked ∷
    status.floor ∷
    []

-- no such input: the number of the refusal, and all else 0
abbrev pub no_ends : List ℕ
no_ends = 0 ∷ 0 ∷ []

abbrev pub nothing_known : List ℕ
nothing_known = input_out_of_range ∷ 0 ∷ 0 ∷ 0 ∷ 0 ∷ 0 ∷ 0 ∷ 0 ∷ []

-- of an input of a state
unfoldable pub ends_known : Selector → ℕ → List ℕ
ends_known state input = cond (ltb last_input input) no_ends (ends_of (input_status state input))

unfoldable pub input_known : Selector → ℕ → List ℕ
input_known state input =
    cond (ltb last_input input) nothing_known (known_of state.profile (input_status state input))
