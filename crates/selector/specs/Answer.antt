-- What is answered of a state, and its outgoing codes. Cited by `src/lib.rt`. Assumes nothing.
use Rattle.std.specs.Prelude.{ℕ, Bool, true, cond, List, map, eqb, get_or, Option, Some, None}
use Rattle.numbers.specs.declared.InputNumber.{InputNumber}
use Rattle.numbers.specs.declared.Answer.{Answer}
use Rattle.numbers.specs.declared.quality.Quality.{Quality}
use Rattle.numbers.specs.declared.profile.Profile.{Profile}
use Rattle.numbers.specs.Profile.{limits_of, marks_of, is_marked, told_by}
use Rattle.numbers.specs.Codes.{code_of_quality, word_of_quality}
use Rattle.input.specs.declared.Input.{Input}
use Rattle.input.specs.Record.{fresh_input}
use Rattle.choice.specs.declared.Candidate.{Candidate}
use Rattle.choice.specs.Candidate.{nobody}
use Rattle.selector.specs.declared.Selector.{Selector}
use Rattle.selector.specs.State.{candidate_for}
unfoldable pub use Rattle.selector.specs.Clock.{no_input, free_run, holdover, locked, clock_state, clock_quality, outgoing_code, outgoing_word, selected_number, switch_none, switch_forced, switch_manual, switch_number, switch_input, ports}

-- an input of the state as a choice sees it
abbrev pub candidate_at : Profile → List Input → Bool → ℕ → Candidate
candidate_at profile inputs mode number = candidate_for profile mode (get_or inputs number fresh_input)

-- the selected input as a choice sees it
unfoldable pub selected_candidate : Profile → List Input → Bool → Option InputNumber → Candidate
selected_candidate profile inputs mode None = nobody
selected_candidate profile inputs mode (Some number) = candidate_at profile inputs mode number.0

-- the clock state of a selector
abbrev pub state_of : Selector → ℕ
state_of state =
    clock_state (selected_candidate state.profile state.inputs state.mode state.selection).usable
    state.waslocked

-- the clock quality of a selector
abbrev pub quality_of : Selector → Quality
quality_of state =
    clock_quality (limits_of state.profile).freerunning state.mode
    (selected_candidate state.profile state.inputs state.mode state.selection)

-- "Answer line: number .., selected input or ff, clock state, clock quality, switch .., its input or ff"
unfoldable pub answer_of : ℕ → Selector → Answer
answer_of number state =
    record {
      number = number;
      selected = selected_number state.selection;
      clockstate = state_of state;
      clockquality = (quality_of state).0;
      switchkind = switch_number state.switch;
      switchinput = switch_input state.switch;
    }

-- what goes out of a port, code or word, by a rule: `first` says the clock quality on a port marked first generation
unfoldable pub sign_for : {Sign : Type 0} → (Bool → Bool → Bool → Sign → Sign) → List Input → Bool → ℕ → ℕ → Sign
    → Sign → ℕ → Sign
sign_for rule inputs mode selected marks sign first port =
    rule mode (get_or inputs port fresh_input).settings.sending (eqb selected port)
    (cond (is_marked marks port) first sign)

-- what goes out of the sixteen ports of a state, codes or words, by their rule and what says a quality
abbrev pub outgoing_signs : {Sign : Type 0} → (Bool → Bool → Bool → Sign → Sign) → (Profile → Quality → Sign)
    → Selector → List Sign
outgoing_signs rule says state =
    map
    (sign_for rule state.inputs state.mode (selected_number state.selection) (marks_of state.profile)
    (says state.profile (quality_of state))
    (says state.profile (told_by true (quality_of state))))
    ports

-- "Outgoing code, for each of the sixteen ports"
unfoldable pub outgoing_codes : Selector → List ℕ
outgoing_codes state = outgoing_signs outgoing_code code_of_quality state

-- the words of the sixteen ports, of an option II state
unfoldable pub outgoing_words : Selector → List ℕ
outgoing_words state = outgoing_signs outgoing_word (λ profile. word_of_quality) state
