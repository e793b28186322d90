-- DEMAND 2, for what is answered of a state after any sequence of events. Assumes nothing.
use Prim.Native.Nat.{ℕ, ◌<◌}
use mathlib.Core.Bool.{Bool, true, false, cond}
use mathlib.Core.List.{List, map}
use mathlib.Core.Path.{◌≡◌, refl, sym, ◌∙◌, ap}
use lib.Dec.{eqb}
use lib.ListN.{get_or}
use Rattle.std.specs.Prelude.{Option, Some, None}
use Rattle.numbers.specs.declared.InputNumber.{InputNumber}
use Rattle.numbers.specs.Inputs.{input_count}
use Rattle.numbers.specs.declared.profile.Profile.{Profile}
use Rattle.numbers.specs.declared.quality.Quality.{Quality}
use Rattle.numbers.specs.From.{profile_of}
use Rattle.numbers.specs.Profile.{limits_of, marks_of, is_marked, told_by}
use Rattle.numbers.specs.Codes.{code_of_quality, word_of_quality}
use Rattle.input.specs.declared.Settings.{Settings}
use Rattle.input.specs.Recorded.{History, mode_on, time_of, is_sending}
use Rattle.input.specs.Record.{fresh_input, record_after}
use Rattle.input.proofs.Recalled.{settings_by, settings_recalled}
use Rattle.input.proofs.Demand2.{passed-now}
use Rattle.switch.specs.OneChoice.{forced_may_stand}
use Rattle.switch.proofs.Selecting.{selected-admitted}
use Rattle.selector.specs.declared.Selector.{Selector}
use Rattle.selector.specs.State.{candidate_for}
use Rattle.selector.specs.Clock.{clock_state, clock_quality, outgoing_code, outgoing_word, selected_number, switch_number, switch_input}
use Rattle.selector.specs.Answer.{selected_candidate, candidate_at, quality_of, answer_of, sign_for, outgoing_codes, outgoing_words}
use Rattle.selector.proofs.Ports.{get_d_ports, ports-same}
use Rattle.events.specs.Sequence.{Sequence, state_after}
use Rattle.events.specs.Past.{Made, candidate_by, seen, past_of, recorded, made_in}
use Rattle.events.specs.Told.{shown, candidate_selected, quality_by, answer_by, told_at, is_selected_port, code_by, word_by}
use Rattle.events.specs.Demand2.{Demand2}
use Rattle.events.proofs.Agrees.{Agrees, sequence-agrees, settings_at, candidate-recorded}
use Rattle.events.proofs.Stated.{admitted-inside, passes-made}

module _ (state : Selector) (history : History) (made : List Made) (agrees : Agrees state history made) where
  -- an input of the state, as a choice sees it, is that of the recorded events
  candidate-at : (number : ℕ) → number < input_count
      → candidate_at state.profile state.inputs state.mode number ≡ candidate_by history state.time number
  candidate-at number inside =
      (λ j. candidate_at (agrees.profile j) (agrees.inputs j) (agrees.mode j) number) ∙
      ap (candidate_for (profile_of history) (mode_on history))
      (get_d_ports (λ (other : ℕ). record_after other history) fresh_input number inside) ∙
      candidate-recorded number (time_of history) history (record_after number history)
      (passed-now number history agrees.ordered)
      (settings_recalled number history) ∙
      ap (λ (time : ℕ). candidate_by history time number) (sym agrees.time)

  -- the selected input is one of the sixteen
  selected-inside : (number : InputNumber) → state.selection ≡ Some number → number.0 < input_count
  selected-inside number x =
      admitted-inside history (time_of history) number.0
      (passes-made forced_may_stand number.0 (time_of history) history made agrees.made_at
      (selected-admitted (map seen made) number.0 (sym agrees.selection ∙ x)))

-- ---- after a sequence

module _ (sequence : Sequence) where
  abbrev after : Selector
  after = state_after sequence

  agreed : Agrees after (recorded sequence) (made_in sequence)
  agreed = sequence-agrees sequence

  selected-shown : (selection : Option InputNumber) → after.selection ≡ selection
      → selected_candidate after.profile after.inputs after.mode selection ≡ shown (past_of sequence) selection
  unfolding selected_candidate
  selected-shown None x = refl
  selected-shown (Some number) x =
      candidate-at after (recorded sequence) (made_in sequence) agreed number.0
      (selected-inside after (recorded sequence) (made_in sequence) agreed number x) ∙
      ap (λ (time : ℕ). candidate_by (recorded sequence) time number.0) agreed.time

  selected-by : selected_candidate after.profile after.inputs after.mode after.selection
      ≡ candidate_selected (past_of sequence)
  selected-by = selected-shown after.selection refl ∙ ap (shown (past_of sequence)) agreed.selection

  quality-by : quality_of after ≡ quality_by (past_of sequence)
  quality-by = λ j. clock_quality (limits_of (agreed.profile j)).freerunning (agreed.mode j) (selected-by j)

  answer-by : (number : ℕ) → answer_of number after ≡ answer_by number (past_of sequence)
  unfolding answer_of
  answer-by number = λ j. record {
    number = number;
    selected = selected_number (agreed.selection j);
    clockstate = clock_state (selected-by j).usable (agreed.waslocked j);
    clockquality = (quality-by j).0;
    switchkind = switch_number (agreed.switch j);
    switchinput = switch_input (agreed.switch j);
  }

  sending-at : (port : ℕ) → port < input_count
      → (get_or after.inputs port fresh_input).settings.sending ≡ is_sending port (recorded sequence)
  unfolding settings_by
  sending-at port inside =
      ap (λ (settings : Settings). settings.sending)
      (settings_at after.inputs (recorded sequence) port agreed.inputs inside)

  -- whether a port is marked or not, it tells the clock quality so
  told-by : {A : Type 0} (sign : Quality → A) (marked : Bool) (told : Quality)
      → cond marked (sign (told_by true told)) (sign told) ≡ sign (told_by marked told)
  unfolding told_by
  told-by sign true told = refl
  told-by sign false told = refl

  abbrev profile : Profile
  profile = profile_of (recorded sequence)

  -- what goes out of a port, code or word
  sign-by : (rule : Bool → Bool → Bool → ℕ → ℕ) (sign : Profile → Quality → ℕ) (port : ℕ) → port < input_count
      → sign_for rule after.inputs after.mode (selected_number after.selection) (marks_of after.profile)
      (sign after.profile (quality_of after))
      (sign after.profile (told_by true (quality_of after)))
      port ≡
      rule (mode_on (recorded sequence)) (is_sending port (recorded sequence)) (is_selected_port (past_of sequence) port)
      (sign profile (told_at (past_of sequence) port))
  unfolding sign_for
  sign-by rule sign port inside =
      (λ j. rule (agreed.mode j) (sending-at port inside j) (eqb (selected_number (agreed.selection j)) port)
      (cond (is_marked (marks_of (agreed.profile j)) port) (sign (agreed.profile j) (told_by true (quality-by j)))
      (sign (agreed.profile j) (quality-by j)))) ∙
      ap (rule (mode_on (recorded sequence)) (is_sending port (recorded sequence))
      (is_selected_port (past_of sequence) port))
      (told-by (sign profile) (is_marked (marks_of profile) port) (quality_by (past_of sequence)))

  code_by_lem : (port : ℕ) → port < input_count
      → sign_for outgoing_code after.inputs after.mode (selected_number after.selection)
      (marks_of after.profile)
      (code_of_quality after.profile (quality_of after))
      (code_of_quality after.profile (told_by true (quality_of after)))
      port ≡
      code_by (past_of sequence) port
  unfolding code_by
  code_by_lem port inside = sign-by outgoing_code code_of_quality port inside

  word-by : (port : ℕ) → port < input_count
      → sign_for outgoing_word after.inputs after.mode (selected_number after.selection)
      (marks_of after.profile)
      (word_of_quality (quality_of after))
      (word_of_quality (told_by true (quality_of after)))
      port ≡
      word_by (past_of sequence) port
  unfolding word_by
  word-by port inside = sign-by outgoing_word (λ profile. word_of_quality) port inside

-- DEMAND 2, for every sequence of events.
pub demand_2_answers : (sequence : Sequence) → Demand2 sequence
unfolding outgoing_codes outgoing_words
demand_2_answers sequence =
    record {
      answer = answer-by sequence;
      outgoing = ports-same _ (code_by (past_of sequence)) (code_by_lem sequence);
      words = ports-same _ (word_by (past_of sequence)) (word-by sequence);
    }
