-- Of two states that differ in one input alone, which is off, nothing that is answered or sent tells which is which.
-- Assumes nothing.
use Prim.Native.Nat.{ℕ}
use mathlib.Core.Bool.{Bool, true, cond}
use mathlib.Core.List.{List, map}
use mathlib.Core.Path.{◌≡◌, refl, sym, ◌∙◌, ap, subst}
use lib.Dec.{eqb}
use lib.ListN.{set}
use lib.Seq.{get_or-set_other}
use Rattle.std.specs.Prelude.{Option, Some, None}
use Rattle.numbers.specs.declared.InputNumber.{InputNumber}
use Rattle.numbers.specs.declared.quality.Quality.{Quality}
use Rattle.numbers.specs.Profile.{limits_of, marks_of, is_marked, told_by}
use Rattle.numbers.specs.Codes.{code_of_quality, word_of_quality}
use Rattle.numbers.proofs.Truth.{contra}
use Rattle.input.specs.declared.Input.{Input}
use Rattle.input.specs.Record.{fresh_input}
use Rattle.choice.specs.declared.Candidate.{Candidate}
use Rattle.switch.specs.OneChoice.{forced_may_stand, decide}
use Rattle.selector.specs.declared.Selector.{Selector}
use Rattle.selector.specs.State.{candidate_for, candidates_of, decided}
use Rattle.selector.specs.Clock.{clock_quality, outgoing_code, outgoing_word, selected_number, ports}
use Rattle.selector.specs.Answer.{selected_candidate, quality_of, answer_of, sign_for, outgoing_codes, outgoing_words}
use Rattle.selector.proofs.Ports.{ports-same}
use Rattle.due.proofs.Calm.{Calm}
use Rattle.undertest.proofs.Candidates.{SelectionAdmitted, selected_by-admitted}
use Rattle.undertest.proofs.Alike.{Shown, shown_of, shown_at, set-shown, Off, off_barred, with_record, AlikeButAt}

-- the selected input of a state as a choice sees it
abbrev pub selected_of : Selector → Candidate
selected_of state = selected_candidate state.profile state.inputs state.mode state.selection

-- what is selected is admitted
calm-admitted : (state : Selector) → Calm state
    → SelectionAdmitted (candidates_of state.profile state.inputs state.mode) state.selection
unfolding decided decide
calm-admitted state calm =
    subst (SelectionAdmitted (candidates_of state.profile state.inputs state.mode))
    (ap (λ (after : Selector). after.selection) calm.chosen)
    (selected_by-admitted (candidates_of state.profile state.inputs state.mode) state.switch
    state.selection)

-- what goes out of a port, by a rule and by what says a quality; and of all sixteen
abbrev sign_at : (Bool → Bool → Bool → ℕ → ℕ) → (Quality → ℕ) → Selector → Quality → ℕ → ℕ
sign_at rule says state quality =
    sign_for rule state.inputs state.mode (selected_number state.selection) (marks_of state.profile)
    (says quality)
    (says (told_by true quality))

abbrev signs_of : (Bool → Bool → Bool → ℕ → ℕ) → (Quality → ℕ) → Selector → Quality → List ℕ
signs_of rule says state quality = map (sign_at rule says state quality) ports

module _ (input : ℕ) (line : Input) (state : Selector) (shown : shown_of line.settings ≡ shown_at state.inputs input)
    (off : Off input state.inputs) (calm : Calm state) where
  -- so it is not the input that is off
  selected-with : (selection : Option InputNumber)
      → SelectionAdmitted (candidates_of state.profile state.inputs state.mode) selection
      → selected_candidate state.profile (set state.inputs input line) state.mode selection ≡
      selected_candidate state.profile state.inputs state.mode selection
  unfolding selected_candidate
  selected-with None admitted = refl
  selected-with (Some number) admitted =
      ap (candidate_for state.profile state.mode)
      (get_or-set_other state.inputs input number.0 line fresh_input
      (λ here. contra
      (subst (λ (on : ℕ). forced_may_stand (candidates_of state.profile state.inputs state.mode) on ≡ true) here
      admitted)
      (off_barred state.profile state.mode state.inputs input off)))

  candidate-with : selected_of (with_record input line state) ≡ selected_of state
  candidate-with = selected-with state.selection (calm-admitted state calm)

  answer-with : (number : ℕ) → answer_of number (with_record input line state) ≡ answer_of number state
  unfolding answer_of
  answer-with number = rw candidate-with

  sign-with : (rule : Bool → Bool → Bool → ℕ → ℕ) (selected marks sign first port : ℕ)
      → sign_for rule (set state.inputs input line) state.mode selected marks sign first port ≡
      sign_for rule state.inputs state.mode selected marks sign first port
  unfolding sign_for
  sign-with rule selected marks sign first port =
      ap
      (λ (s : Shown). rule state.mode s.sending (eqb selected port) (cond (is_marked marks port) first sign))
      (set-shown state.inputs input line shown port)

  signs_with : (rule : Bool → Bool → Bool → ℕ → ℕ) (says : Quality → ℕ)
      → signs_of rule says (with_record input line state) (quality_of (with_record input line state)) ≡
      signs_of rule says state (quality_of state)
  signs_with rule says =
      ap
      (λ (candidate : Candidate). signs_of rule says (with_record input line state)
      (clock_quality (limits_of state.profile).freerunning state.mode candidate))
      candidate-with ∙
      ports-same (sign_at rule says (with_record input line state) (quality_of state))
      (sign_at rule says state (quality_of state))
      (λ port h. sign-with rule (selected_number state.selection) (marks_of state.profile) (says (quality_of state))
      (says (told_by true (quality_of state)))
      port)

  codes-with : outgoing_codes (with_record input line state) ≡ outgoing_codes state
  unfolding outgoing_codes
  codes-with = signs_with outgoing_code (code_of_quality state.profile)

  words-with : outgoing_words (with_record input line state) ≡ outgoing_words state
  unfolding outgoing_words
  words-with = signs_with outgoing_word word_of_quality

-- ---- the theorems

module _ (input : ℕ) (one other : Selector) (alike : AlikeButAt input one other) (off : Off input one.inputs)
    (calm : Calm one) where
  -- what a choice sees of the selected input
  pub selected-alike : selected_of one ≡ selected_of other
  selected-alike =
      sym (ap selected_of alike.same ∙
      candidate-with input alike.line one alike.shown off calm)

  pub answer-alike : (number : ℕ) → answer_of number one ≡ answer_of number other
  answer-alike number =
      sym (ap (answer_of number) alike.same ∙ answer-with input alike.line one alike.shown off calm number)

  pub switch-alike : one.switch ≡ other.switch
  switch-alike = sym (ap (λ (state : Selector). state.switch) alike.same)

  pub codes-alike : outgoing_codes one ≡ outgoing_codes other
  codes-alike = sym (ap outgoing_codes alike.same ∙ codes-with input alike.line one alike.shown off calm)

  pub words-alike : outgoing_words one ≡ outgoing_words other
  words-alike = sym (ap outgoing_words alike.same ∙ words-with input alike.line one alike.shown off calm)
