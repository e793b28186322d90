-- An outgoing code is one of the sixteen, whatever the state. Assumes nothing.
use Prim.Native.Nat.{ℕ, zero, suc, ◌≤◌}
use mathlib.Core.Bool.{Bool, true, false, not, ◌||◌, cond}
use mathlib.Core.List.{List, [], ◌∷◌, map}
use native.Mathlib.Omega.{arith}
use lib.Dec.{eqb}
use lib.ListN.{get_or}
use Rattle.numbers.specs.declared.quality.Quality.{Quality}
use Rattle.numbers.specs.declared.profile.Profile.{Profile}
use Rattle.numbers.specs.declared.profile.Profile.TheVariants as P
use Rattle.numbers.specs.Codes.{code_dnu, sign_of, code_of_quality}
use Rattle.numbers.specs.Profile.{marks_of, is_marked, told_by}
use Rattle.frame.specs.Write.{largest_code}
use Rattle.input.specs.declared.Input.{Input}
use Rattle.input.specs.Record.{fresh_input}
use Rattle.selector.specs.declared.Selector.{Selector}
use Rattle.selector.specs.Clock.{selected_number, outgoing_code, ports}
use Rattle.selector.specs.Answer.{quality_of, sign_for, outgoing_codes}
use Rattle.sender.specs.Heartbeat.{code_of_port}

cond_small : (test : Bool) (one other : ℕ) → one ≤ 15 → other ≤ 15 → cond test one other ≤ 15
cond_small true one other a b = a
cond_small false one other a b = b

code_of_quality-small : (profile : Profile) (told : Quality) → code_of_quality profile told ≤ 15
unfolding code_of_quality sign_of
code_of_quality-small P.OptionOne told =
    cond_small (eqb told.0 1) 2 _ (omega arith)
    (cond_small (eqb told.0 2) 4 _ (omega arith)
    (cond_small (eqb told.0 3) 8 _ (omega arith)
    (cond_small (eqb told.0 4) 11 _ (omega arith)
    (cond_small (eqb told.0 5) 15 _ (omega arith) (omega arith)))))
code_of_quality-small (P.OptionTwo provplace marks) told =
    cond_small (eqb told.0 1) 1 _ (omega arith)
    (cond_small (eqb told.0 2) 0 _ (omega arith)
    (cond_small (eqb told.0 3) 7 _ (omega arith)
    (cond_small (eqb told.0 4) 4 _ (omega arith)
    (cond_small (eqb told.0 5) 13 _ (omega arith)
    (cond_small (eqb told.0 6) 10 _ (omega arith)
    (cond_small (eqb told.0 7) 12 _ (omega arith)
    (cond_small (eqb told.0 9) 14 _ (omega arith)
    (cond_small (eqb told.0 10) 15 _ (omega arith) (omega arith)))))))))

outgoing_code-small : (mode sending selected : Bool) (code : ℕ) → code ≤ 15
    → outgoing_code mode sending selected code ≤ 15
unfolding outgoing_code
outgoing_code-small mode sending selected code small =
    cond_small (not mode || not sending || selected) code_dnu code (omega arith) small

sign_for-small : (inputs : List Input) (mode : Bool) (selected marks code first port : ℕ) → code ≤ 15 → first ≤ 15
    → sign_for outgoing_code inputs mode selected marks code first port ≤ 15
unfolding sign_for
sign_for-small inputs mode selected marks code first port small also =
    outgoing_code-small mode (get_or inputs port fresh_input).settings.sending (eqb selected port) _
    (cond_small (is_marked marks port) first code also small)

get_d_small : (code : ℕ → ℕ) → ((port : ℕ) → code port ≤ 15) → (list : List ℕ) (port : ℕ)
    → get_or (map code list) port 0 ≤ 15
get_d_small code small [] port = omega arith
get_d_small code small (first ∷ list) zero = small first
get_d_small code small (first ∷ list) (suc port) = get_d_small code small list port

-- whatever the state
pub code_of_port-small : (state : Selector) (port : ℕ) → code_of_port state port ≤ largest_code
unfolding outgoing_codes
code_of_port-small state port =
    get_d_small _
    (λ one.
    sign_for-small state.inputs state.mode (selected_number state.selection) (marks_of state.profile) _ _ one
    (code_of_quality-small state.profile (quality_of state))
    (code_of_quality-small state.profile (told_by true (quality_of state))))
    ports
    port
