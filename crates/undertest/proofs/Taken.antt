-- An event taken by two states that differ in one input alone: the same event, or one on that input of which nothing
-- shows. Assumes nothing.
use Prim.Native.Nat.{ℕ, ◌<◌}
use mathlib.Core.Bool.{Bool, true, false, not, cond, true≢false}
use mathlib.Core.List.{List, map}
use mathlib.Core.Path.{◌≡◌, refl, sym, ◌∙◌, ap, subst}
use native.Mathlib.Omega.{arith}
use native.Mathlib.Decide.{ℕ_discrete}
use lib.Dec.{eqb}
use lib.ListN.{length, get_or, set}
use lib.Seq.{get_or-set_same, get_or-set_other, set-set, set_comm}
use borrow.Author.Tests.{eqb-true, eqb-false}
use Rattle.numbers.specs.declared.profile.Limits.{Limits}
use Rattle.numbers.specs.Recorded.{Recorded}
use Rattle.numbers.specs.Kind.{kind_signal, kind_frame, kind_line_code, kind_priority, kind_lockout, kind_holdoff, kind_wait, kind_fixed_quality, kind_clear_wait, kind_forced, kind_manual, kind_clear_switch, kind_quality_mode, kind_sending, kind_input_kind, kind_floor, kind_word, input_kind_of}
use Rattle.numbers.proofs.Truth.{by_bool}
use Rattle.input.specs.declared.Input.{Input}
use Rattle.input.specs.declared.Settings.{Settings}
use Rattle.input.specs.Record.{fresh_input, settings_after, input_at_moment, after_event}
use Rattle.switch.specs.declared.Switch.{Switch}
use Rattle.switch.specs.Choices.{commanded}
use Rattle.selector.specs.declared.Selector.{Selector}
use Rattle.due.proofs.Calm.{moved_to}
use Rattle.events.specs.Step.{held_argument, input_after, inputs_after, mode_after, event_taken}
use Rattle.unit.specs.Unit.{is_report}
use Rattle.undertest.specs.UnderTest.{is_hidden}
use Rattle.undertest.proofs.Alike.{map-set, Shown, shown_of, shown_at, set-shown, map-shown, with_record, AlikeButAt}

-- ---- an event on a line that is off, of which nothing shows

-- what shows of an input after an event on it
abbrev shown_after : Shown → ℕ → ℕ → Shown
shown_after shown kind argument =
    record {
      priority = cond (eqb kind kind_priority) (record { 0 = argument }) shown.priority;
      kind = cond (eqb kind kind_input_kind) (input_kind_of argument) shown.kind;
      sending = cond (eqb kind kind_sending) (not (eqb argument 0)) shown.sending;
    }

settings_shown : (settings : Settings) (kind argument : ℕ)
    → shown_of (settings_after settings kind argument) ≡ shown_after (shown_of settings) kind argument
unfolding settings_after
settings_shown settings kind argument = refl

-- a kind of event that sets nothing that shows, and commands nothing
pub record Quiet (kind : ℕ) : Type 0 where
  pub sets : (shown : Shown) (argument : ℕ) → shown_after shown kind argument ≡ shown
  pub commands : (on : ℕ) (switch : Switch) → commanded kind on switch ≡ switch
  pub mode : eqb kind kind_quality_mode ≡ false
  pub forced : kind ≡ kind_forced → ⊥
  pub manual : kind ≡ kind_manual → ⊥

quiet_of : (kind : ℕ) → eqb kind kind_priority ≡ false → eqb kind kind_input_kind ≡ false → eqb kind kind_sending ≡ false
    → eqb kind kind_forced ≡ false
    → eqb kind kind_manual ≡ false
    → eqb kind kind_clear_switch ≡ false
    → eqb kind kind_quality_mode ≡ false
    → Quiet kind
unfolding commanded
quiet_of kind priority input sending forced manual clear mode =
    record {
      sets = λ shown argument. rw (priority, input, sending) refl;
      commands = λ on switch. rw (forced, manual, clear) refl;
      mode = mode;
      forced = eqb-false kind kind_forced forced;
      manual = eqb-false kind kind_manual manual;
    }

quiet_as : (kind known : ℕ) → eqb kind known ≡ true → Quiet known → Quiet kind
quiet_as kind known same quiet = subst Quiet (sym (eqb-true kind known same)) quiet

pub report_quiet : (limits : Limits) (kind : ℕ) → is_report limits kind ≡ true → Quiet kind
report_quiet limits kind report =
    by_bool (eqb kind kind_signal)
    (λ a. quiet_as kind kind_signal a (quiet_of kind_signal refl refl refl refl refl refl refl))
    (λ a. by_bool (eqb kind kind_frame)
    (λ b. quiet_as kind kind_frame b (quiet_of kind_frame refl refl refl refl refl refl refl))
    (λ b. by_bool (eqb kind kind_line_code)
    (λ c. quiet_as kind kind_line_code c (quiet_of kind_line_code refl refl refl refl refl refl refl))
    (λ c. by_bool (eqb kind kind_word)
    (λ d. quiet_as kind kind_word d (quiet_of kind_word refl refl refl refl refl refl refl))
    (λ d. absurd (true≢false (sym (rw (a, b, c, d) at report)))))))

pub hidden_quiet : (kind : ℕ) → is_hidden kind ≡ true → Quiet kind
hidden_quiet kind hidden =
    by_bool (eqb kind kind_lockout)
    (λ a. quiet_as kind kind_lockout a (quiet_of kind_lockout refl refl refl refl refl refl refl))
    (λ a. by_bool (eqb kind kind_holdoff)
    (λ b. quiet_as kind kind_holdoff b (quiet_of kind_holdoff refl refl refl refl refl refl refl))
    (λ b. by_bool (eqb kind kind_wait)
    (λ c. quiet_as kind kind_wait c (quiet_of kind_wait refl refl refl refl refl refl refl))
    (λ c. by_bool (eqb kind kind_fixed_quality)
    (λ d. quiet_as kind kind_fixed_quality d (quiet_of kind_fixed_quality refl refl refl refl refl refl refl))
    (λ d. by_bool (eqb kind kind_clear_wait)
    (λ e. quiet_as kind kind_clear_wait e (quiet_of kind_clear_wait refl refl refl refl refl refl refl))
    (λ e. by_bool (eqb kind kind_floor)
    (λ f. quiet_as kind kind_floor f (quiet_of kind_floor refl refl refl refl refl refl refl))
    (λ f. absurd (true≢false (sym (rw (a, b, c, d, e, f) at hidden)))))))))

-- ---- the inputs

-- some inputs differ in one alone, and there in nothing that shows
record AlikeInputs (input : ℕ) (one other : List Input) : Type 0 where
  line : Input
  shown : shown_of line.settings ≡ shown_at one input
  same : other ≡ set one input line

-- an event that does not set the mode is taken by its own input alone
inputs_after-own : (inputs : List Input) (event : Recorded) (mode : Bool) → eqb event.kind kind_quality_mode ≡ false
    → inputs_after inputs event mode ≡
    set inputs event.input (input_after (get_or inputs event.input fresh_input) event mode)
unfolding inputs_after
inputs_after-own inputs event mode e = rw e

-- one that does, by all
inputs_after-mode : (inputs : List Input) (event : Recorded) (mode : Bool) → eqb event.kind kind_quality_mode ≡ true
    → inputs_after inputs event mode ≡ map (λ (input : Input). input_at_moment input event.time mode false) inputs
unfolding inputs_after
inputs_after-mode inputs event mode e = rw e

input_after_settings : (input : Input) (event : Recorded) (mode : Bool)
    → (input_after input event mode).settings ≡
    settings_after input.settings event.kind (held_argument event.kind event.argument)
unfolding input_after after_event input_at_moment
input_after_settings input event mode = refl

-- what shows of an input after an event on it, and of one of which nothing shows
input_after-shown : (input : Input) (event : Recorded) (mode : Bool)
    → shown_of (input_after input event mode).settings ≡
    shown_after (shown_of input.settings) event.kind (held_argument event.kind event.argument)
input_after-shown input event mode =
    ap shown_of (input_after_settings input event mode) ∙
    settings_shown input.settings event.kind (held_argument event.kind event.argument)

input_at_moment_settings : (time : ℕ) (mode : Bool) (input : Input)
    → (input_at_moment input time mode false).settings ≡ input.settings
unfolding input_at_moment
input_at_moment_settings time mode input = refl

module _ (input : ℕ) (line : Input) (inputs : List Input) (shown : shown_of line.settings ≡ shown_at inputs input)
    (mode : Bool) where
  -- an event on that input
  own-alike : (event : Recorded) → event.input ≡ input → input < length inputs
      → eqb event.kind kind_quality_mode ≡ false
      → AlikeInputs input (inputs_after inputs event mode) (inputs_after (set inputs input line) event mode)
  own-alike event on inside e =
      subst (λ (one : List Input). AlikeInputs input one (inputs_after (set inputs input line) event mode))
      (sym (inputs_after-own inputs event mode e ∙
      ap (λ (n : ℕ). set inputs n (input_after (get_or inputs n fresh_input) event mode)) on))
      (record {
        line = after;
        shown =
            input_after-shown (get_or (set inputs input line) input fresh_input) event mode ∙
            ap (λ (s : Shown). shown_after s event.kind (held_argument event.kind event.argument))
            (set-shown inputs input line shown input) ∙
            sym (input_after-shown (get_or inputs input fresh_input) event mode) ∙
            ap (λ (x : Input). shown_of x.settings)
            (sym (get_or-set_same inputs input (input_after (get_or inputs input fresh_input) event mode) fresh_input inside));
        same =
            inputs_after-own (set inputs input line) event mode e ∙
            ap
            (λ (n : ℕ). set (set inputs input line) n
            (input_after (get_or (set inputs input line) n fresh_input) event mode))
            on ∙
            set-set inputs input line after ∙
            sym (set-set inputs input (input_after (get_or inputs input fresh_input) event mode) after);
      })
    where
      after : Input
      after = input_after (get_or (set inputs input line) input fresh_input) event mode

  -- an event on another input
  other-alike : (event : Recorded) → (event.input ≡ input → ⊥) → eqb event.kind kind_quality_mode ≡ false
      → AlikeInputs input (inputs_after inputs event mode) (inputs_after (set inputs input line) event mode)
  other-alike event there e =
      rw (inputs_after-own inputs event mode e, inputs_after-own (set inputs input line) event mode e)
      (record {
        line = line;
        shown =
            shown ∙
            ap (λ (x : Input). shown_of x.settings)
            (sym (get_or-set_other inputs event.input input
            (input_after (get_or inputs event.input fresh_input) event mode)
            fresh_input
            (λ here. there (sym here))));
        same =
            ap (λ (x : Input). set (set inputs input line) event.input (input_after x event mode))
            (get_or-set_other inputs input event.input line fresh_input there) ∙
            set_comm inputs input event.input line (input_after (get_or inputs event.input fresh_input) event mode)
            (λ here. there (sym here));
      })

  mode-alike : (event : Recorded) → eqb event.kind kind_quality_mode ≡ true
      → AlikeInputs input (inputs_after inputs event mode) (inputs_after (set inputs input line) event mode)
  mode-alike event e =
      rw (inputs_after-mode inputs event mode e, inputs_after-mode (set inputs input line) event mode e)
      (record {
        line = input_at_moment line event.time mode false;
        shown =
            ap shown_of (input_at_moment_settings event.time mode line) ∙ shown ∙
            sym (map-shown (λ (x : Input). input_at_moment x event.time mode false)
            (input_at_moment_settings event.time mode)
            inputs
            input);
        same = map-set (λ (x : Input). input_at_moment x event.time mode false) inputs input line;
      })

  -- the same event in both
  same_alike : (event : Recorded) → event.input < length inputs
      → AlikeInputs input (inputs_after inputs event mode) (inputs_after (set inputs input line) event mode)
  same_alike event inside =
      by_bool (eqb event.kind kind_quality_mode)
      (mode-alike event)
      (λ e. go e (ℕ_discrete event.input input))
    where
      go : eqb event.kind kind_quality_mode ≡ false → Dec (event.input ≡ input)
          → AlikeInputs input (inputs_after inputs event mode) (inputs_after (set inputs input line) event mode)
      go e (yes here) = own-alike event here (omega arith) e
      go e (no there) = other-alike event there e

-- ---- the states

-- the same event in both
pub taken-with : (input : ℕ) (line : Input) (state : Selector)
    → shown_of line.settings ≡ shown_at state.inputs input
    → (event : Recorded) → event.input < length state.inputs
    → AlikeButAt input (event_taken state event) (event_taken (with_record input line state) event)
taken-with input line state shown event inside =
    let mode : Bool = mode_after event.kind event.argument state.mode in
    let after = same_alike input line state.inputs shown mode event inside in
    record {
      line = after.line;
      shown = after.shown;
      same = ap (λ (inputs : List Input). moved_to (event_taken state event) inputs state.time) after.same;
    }

-- one of which nothing shows takes the state's inputs on, and nothing else
quiet_taken : (state : Selector) (event : Recorded) → Quiet event.kind
    → event_taken state event ≡ moved_to state (inputs_after state.inputs event state.mode) state.time
unfolding mode_after
quiet_taken state event quiet = rw (quiet.mode, quiet.commands event.input state.switch)

-- on an input it changes that input alone, and there nothing that shows
pub line_taken_lem : (input : ℕ) (state : Selector) (event : Recorded) → Quiet event.kind → event.input ≡ input
    → AlikeButAt input state (event_taken state event)
line_taken_lem input state event quiet on =
    record {
      line = line;
      shown =
          input_after-shown (get_or state.inputs input fresh_input) event state.mode ∙
          quiet.sets (shown_at state.inputs input) (held_argument event.kind event.argument);
      same =
          quiet_taken state event quiet ∙
          ap (λ (inputs : List Input). moved_to state inputs state.time)
          (inputs_after-own state.inputs event state.mode quiet.mode ∙
          ap (λ (n : ℕ). set state.inputs n (input_after (get_or state.inputs n fresh_input) event state.mode)) on);
    }
  where
    line : Input
    line = input_after (get_or state.inputs input fresh_input) event state.mode
