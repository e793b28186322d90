-- L14: a line under test does not matter. Assumes nothing.
use Prim.Native.Nat.{ℕ, ◌<◌}
use mathlib.Core.Logic.{inl, inr}
use mathlib.Core.Path.{◌≡◌, refl, sym, ◌∙◌, ap, subst}
use native.Mathlib.Omega.{arith}
use lib.Dec.{ltb}
use lib.ListN.{length, get_or-eq_default}
use borrow.Author.Tests.{ltb-true, ltb-false}
use Rattle.numbers.specs.declared.Event.{Event}
use Rattle.numbers.specs.declared.profile.Limits.{Limits}
use Rattle.numbers.specs.Recorded.{Recorded}
use Rattle.numbers.specs.From.{started, ◌following◌, profile_of}
use Rattle.numbers.specs.Profile.{limits_of}
use Rattle.numbers.specs.Inputs.{input_count}
use Rattle.numbers.specs.Kind.{kind_forced, kind_manual, kind_tick}
use Rattle.numbers.specs.Refusal.{accepted}
use Rattle.frame.specs.declared.FrameRead.{FrameRead}
use Rattle.frame.specs.Read.{read_code}
use Rattle.numbers.proofs.Truth.{by_bool}
use Rattle.input.specs.declared.Input.{Input}
use Rattle.input.specs.declared.Settings.{Settings}
use Rattle.input.specs.Recorded.{last_argument, priority_of}
use Rattle.input.specs.Record.{fresh_input}
use Rattle.input.proofs.Recalled.{settings_by}
use Rattle.selector.specs.declared.Selector.{Selector}
use Rattle.selector.specs.State.{decided}
use Rattle.selector.specs.Answer.{answer_of, outgoing_codes, outgoing_words}
use Rattle.due.specs.Served.{ticked}
use Rattle.due.proofs.Calm.{Calm}
use Rattle.events.specs.Refusals.{early_refusal}
use Rattle.events.specs.Step.{Stepped, kind_at, recorded_event, event_taken, at_its_moment, early_number, late_number, step_read, step}
use Rattle.events.specs.Sequence.{Given, Sequence, state_after, number_after}
use Rattle.events.specs.Past.{past_of, recorded}
use Rattle.events.proofs.EventLaws.{late_refusal-other}
use Rattle.events.proofs.Refused.{accepted-input}
use Rattle.events.proofs.Agrees.{settings_at, sequence-agrees}
use Rattle.events.proofs.Calm.{accepted_or_not, at_its_moment_tick, step_read-refused, step_read_barred, step_read-taken, not_before, not_never, calm-brought, brought-time, sequence-calm}
use Rattle.undertest.specs.UnderTest.{OnLine, Pair, EqualButFor, begun, equal, paired, OffThroughout, NothingShows, NothingEverShows}
use Rattle.undertest.proofs.Candidates.{late_refusal-same}
use Rattle.undertest.proofs.Alike.{Shown, set-shown, Off, off_as, AlikeButAt, alike_itself, alike-back, alike-on, alike-off, candidates-same, alike-decided, alike-served, ticked-shown}
use Rattle.undertest.proofs.Shown.{selected_of, selected-alike, answer-alike, switch-alike, codes-alike, words-alike}
use Rattle.undertest.proofs.Taken.{Quiet, report_quiet, hidden_quiet, taken-with, line_taken_lem}

-- ---- a step on both

-- by what two steps come to
alike-after : (input : ℕ) (one other after other_after : Stepped) → one ≡ after → other ≡ other_after
    → AlikeButAt input after.state other_after.state
    → AlikeButAt input one.state other.state
alike-after input one other after other_after e k alike =
    subst (λ (step : Stepped). AlikeButAt input step.state other.state) (sym e)
    (subst (λ (step : Stepped). AlikeButAt input after.state step.state) (sym k) alike)

-- an event that is not refused before its tick is given the number of rows 14 to 17
number-late : (state : Selector) (event : Event) (read : FrameRead) → early_number state event read ≡ accepted
    → (step_read state event read).number ≡ late_number (ticked state event.time) event
number-late state event read none =
    accepted_or_not (late_number (ticked state event.time) event)
    (λ later. ap (λ (step : Stepped). step.number) (step_read-taken state event read none later) ∙ sym later)
    (λ barred. ap (λ (step : Stepped). step.number) (step_read_barred state event read none barred))

-- an event that is accepted was not refused before its tick
accepted-early : (state : Selector) (event : Event) (read : FrameRead) → (step_read state event read).number ≡ accepted
    → early_number state event read ≡ accepted
accepted-early state event read number =
    accepted_or_not (early_number state event read)
    (λ none. none)
    (λ given. absurd (given
    (sym (ap (λ (step : Stepped). step.number) (step_read-refused state event read given)) ∙ number)))

-- and one that is no switch never is after it
accepted-late : (state : Selector) (event : Event) → (event.kind ≡ kind_forced → ⊥) → (event.kind ≡ kind_manual → ⊥)
    → late_number state event ≡ accepted
accepted-late state event forced manual = sym (late_refusal-other _ _ event.kind event.input forced manual)

-- a choice is made after the event itself
alike-at_its_moment : (input : ℕ) (one other : Selector) (event otherEvent : Recorded)
    → AlikeButAt input (event_taken one event) (event_taken other otherEvent)
    → Off input (at_its_moment one event).inputs
    → AlikeButAt input (at_its_moment one event) (at_its_moment other otherEvent)
unfolding at_its_moment decided
alike-at_its_moment input one other event otherEvent alike off =
    alike-decided input (event_taken one event) (event_taken other otherEvent) alike off

module _ (input : ℕ) (one other : Selector) (alike : AlikeButAt input one other) (off : Off input one.inputs)
    (calm : Calm one) (otherCalm : Calm other) where
  -- rows 2 to 13 give the same
  early-alike : (event : Event) (read : FrameRead) → early_number other event read ≡ early_number one event read
  early-alike event read =
      ap (λ (state : Selector). early_number state event read) alike.same ∙
      ap (λ (shown : Shown). early_refusal (limits_of one.profile) one.time shown.kind event read)
      (set-shown one.inputs input alike.line alike.shown event.input)

  -- once both have been ticked to the time of an event that comes now
  module _ (event : Event) (read : FrameRead) (none : early_number one event read ≡ accepted) where
    brought-alike : AlikeButAt input (ticked one event.time) (ticked other event.time)
    brought-alike =
        alike-served input one other alike off calm otherCalm event.time (not_before one event read calm none)
        (not_never one event read calm none)

    brought-off : Off input (ticked one event.time).inputs
    brought-off =
        off_as input one.inputs (ticked one event.time).inputs
        (ticked-shown one calm event.time (not_before one event read calm none)
        (not_never one event read calm none)
        input)
        off

    -- rows 14 to 17 give the same
    late-alike : late_number (ticked other event.time) event ≡ late_number (ticked one event.time) event
    late-alike =
        ap (λ (state : Selector). late_number state event) brought-alike.same ∙
        sym (late_refusal-same _ _
        (candidates-same input brought-alike.line (ticked one event.time) brought-alike.shown brought-off)
        (ticked one event.time).switch
        event.kind
        event.input)

    inside : event.input < length (ticked one event.time).inputs
    inside =
        let k : length (ticked one event.time).inputs ≡ 16 = (calm-brought one event read calm none).count in
        omega (
          arith,
          accepted-input (limits_of one.profile) one.time (kind_at one.inputs event.input) event read none,
        )

  -- any event is given the same number
  number-alike : (event : Event) (read : FrameRead)
      → (step_read one event read).number ≡ (step_read other event read).number
  number-alike event read =
      accepted_or_not (early_number one event read)
      (λ none. number-late one event read none ∙ sym (late-alike event read none) ∙
      sym (number-late other event read (early-alike event read ∙ none)))
      (λ refused. ap (λ (step : Stepped). step.number) (step_read-refused one event read refused) ∙
      sym (early-alike event read) ∙
      sym (ap (λ (step : Stepped). step.number)
      (step_read-refused other event read (λ z. refused (sym (early-alike event read) ∙ z)))))

  -- the same event
  step-alike : (event : Event) (read : FrameRead) → Off input (step_read one event read).state.inputs
      → AlikeButAt input (step_read one event read).state (step_read other event read).state
  step-alike event read after =
      accepted_or_not (early_number one event read)
      (λ none. accepted_or_not (late_number (ticked one event.time) event)
      (λ later. taken none later)
      (λ barred. alike-after input _ _ _ _
      (step_read_barred one event read none barred)
      (step_read_barred other event read (early-alike event read ∙ none)
      (λ z. barred (sym (late-alike event read none) ∙ z)))
      (brought-alike event read none)))
      (λ refused. alike-after input _ _ _ _
      (step_read-refused one event read refused)
      (step_read-refused other event read (λ z. refused (sym (early-alike event read) ∙ z)))
      alike)
    where
      taken : early_number one event read ≡ accepted → late_number (ticked one event.time) event ≡ accepted
          → AlikeButAt input (step_read one event read).state (step_read other event read).state
      taken none later =
          let e = step_read-taken one event read none later in
          let brought = brought-alike event read none in
          let recorded : Recorded = recorded_event (ticked one event.time).profile event read in
          alike-after input _ _ _ _
          e
          (step_read-taken other event read (early-alike event read ∙ none) (late-alike event read none ∙ later))
          (alike-at_its_moment input (ticked one event.time) (ticked other event.time) recorded
          (recorded_event (ticked other event.time).profile event read)
          (subst (λ (state : Selector). AlikeButAt input (event_taken (ticked one event.time) recorded)
          (event_taken state (recorded_event state.profile event read)))
          (sym brought.same)
          (taken-with input brought.line (ticked one event.time) brought.shown recorded
          (inside event read none)))
          (subst (λ (step : Stepped). Off input step.state.inputs) e after))

-- ---- one of a pair

-- what the tick before an accepted event leaves
module _ (input : ℕ) (limits : Limits) (state : Selector) (calm : Calm state) (given : Given)
    (number : (step_read state given.event (read_code given.frame)).number ≡ accepted) where
  abbrev event : Event
  event = given.event

  abbrev read : FrameRead
  read = read_code given.frame

  abbrev brought : Selector
  brought = ticked state event.time

  none : early_number state event read ≡ accepted
  none = accepted-early state event read number

  -- and what an event leaves that is no switch
  taken-state : (event.kind ≡ kind_forced → ⊥) → (event.kind ≡ kind_manual → ⊥)
      → (step_read state event read).state ≡ at_its_moment brought (recorded_event brought.profile event read)
  taken-state forced manual =
      ap (λ (step : Stepped). step.state)
      (step_read-taken state event read none (accepted-late brought event forced manual))

  -- one on that input of which nothing shows
  quiet_step : Quiet event.kind → event.input ≡ input → Off input brought.inputs
      → AlikeButAt input brought (step_read state event read).state
  unfolding at_its_moment
  quiet_step quiet on off =
      subst (AlikeButAt input brought) (sym (taken-state quiet.forced quiet.manual))
      (subst
      (λ (before : Selector). AlikeButAt input before
      (decided (event_taken brought (recorded_event brought.profile event read))))
      (calm-brought state event read calm none).chosen
      (alike-decided input brought (event_taken brought (recorded_event brought.profile event read))
      (line_taken_lem input brought (recorded_event brought.profile event read) quiet on)
      off))

  -- a tick leaves the same
  tick_step : event.kind ≡ kind_tick → (step_read state event read).state ≡ brought
  tick_step tick =
      taken-state (λ e. omega arith) (λ e. omega arith) ∙
      at_its_moment_tick brought (recorded_event brought.profile event read) (calm-brought state event read calm none)
      (brought-time state event read calm none)
      tick
      (omega (
        arith,
        accepted-input (limits_of state.profile) state.time (kind_at state.inputs event.input) event read none,
      ))

  -- so each of a pair leaves what its tick leaves, but for that input
  line_step_lem : OnLine limits input given → Off input brought.inputs
      → AlikeButAt input brought (step_read state event read).state
  line_step_lem (inl report) off = quiet_step (report_quiet limits event.kind report.report) report.on off
  line_step_lem (inr (inl command)) off = quiet_step (hidden_quiet event.kind command.hidden) command.here off
  line_step_lem (inr (inr tick)) off =
      subst (AlikeButAt input brought) (sym (tick_step tick)) (alike_itself input brought)

-- one of a pair in each, at the same time and accepted in both
pair-alike : (input : ℕ) (limits otherLimits : Limits) (one other : Selector)
    → AlikeButAt input one other → Off input one.inputs → Calm one → Calm other
    → (given otherGiven : Given)
    → OnLine limits input given
    → OnLine otherLimits input otherGiven
    → given.event.time ≡ otherGiven.event.time
    → (step_read one given.event (read_code given.frame)).number ≡ accepted
    → (step_read other otherGiven.event (read_code otherGiven.frame)).number ≡ accepted
    → AlikeButAt input (step_read one given.event (read_code given.frame)).state
    (step_read other otherGiven.event (read_code otherGiven.frame)).state
pair-alike input limits otherLimits one other alike off calm otherCalm given otherGiven onLine otherOnLine time number
    other_number =
    let none = accepted-early one given.event (read_code given.frame) number in
    let off' = brought-off input one other alike off calm otherCalm given.event (read_code given.frame) none in
    let both : AlikeButAt input (ticked one given.event.time) (ticked other otherGiven.event.time) =
    subst (λ (at : ℕ). AlikeButAt input (ticked one given.event.time) (ticked other at)) time
    (brought-alike input one other alike off calm otherCalm given.event (read_code given.frame) none)
    in
    alike-on input _ (ticked one given.event.time) _
    (alike-back input _ _ (line_step_lem input limits one calm given number onLine off'))
    (alike-on input _ (ticked other otherGiven.event.time) _ both
    (line_step_lem input otherLimits other otherCalm otherGiven other_number otherOnLine (alike-off input _ _ both off')))

-- ---- any sequences of events

-- an input that is off by the recorded events is off in the state
off-recorded : (input : ℕ) (sequence : Sequence) → priority_of input (recorded sequence) ≡ 0
    → Off input (state_after sequence).inputs
unfolding settings_by
off-recorded input sequence off =
    by_bool (ltb input input_count)
    (λ e. ap (λ (settings : Settings). settings.priority.0)
    (settings_at (state_after sequence).inputs (recorded sequence) input (sequence-agrees sequence).inputs
    (ltb-true input input_count e)) ∙
    off)
    (λ e. let k : length (state_after sequence).inputs ≡ 16 = (sequence-calm sequence).count in
    ap (λ (x : Input). x.settings.priority.0)
    (get_or-eq_default (state_after sequence).inputs fresh_input (omega (arith, ltb-false input input_count e))))

pub off-now : (input : ℕ) (sequence : Sequence) → OffThroughout input sequence → Off input (state_after sequence).inputs
unfolding past_of last_argument
off-now input (started profile) off = off-recorded input (started profile) refl
off-now input (given following earlier) off = off-recorded input (given following earlier) off.0

-- one event more of each, by the states before
module _ (input : ℕ) (earlier otherEarlier : Sequence)
    (alike : AlikeButAt input (state_after earlier) (state_after otherEarlier))
    (off : Off input (state_after earlier).inputs) where
  pub equal-step : (given : Given) → Off input (state_after (given following earlier)).inputs
      → AlikeButAt input (state_after (given following earlier)) (state_after (given following otherEarlier))
  unfolding state_after step
  equal-step given after =
      step-alike input (state_after earlier) (state_after otherEarlier) alike off (sequence-calm earlier)
      (sequence-calm otherEarlier)
      given.event
      (read_code given.frame)
      after

  -- and the number of any that comes now
  pub equal-number : (given : Given) → number_after given earlier ≡ number_after given otherEarlier
  unfolding number_after step
  equal-number given =
      number-alike input (state_after earlier) (state_after otherEarlier) alike off (sequence-calm earlier)
      (sequence-calm otherEarlier)
      given.event
      (read_code given.frame)

  pub pair_step : (one other : Given) → Pair input one earlier other otherEarlier
      → AlikeButAt input (state_after (one following earlier)) (state_after (other following otherEarlier))
  unfolding state_after number_after step
  pair_step one other pair =
      pair-alike input (limits_of (profile_of earlier)) (limits_of (profile_of otherEarlier)) (state_after earlier)
      (state_after otherEarlier)
      alike
      off
      (sequence-calm earlier)
      (sequence-calm otherEarlier)
      one
      other
      pair.in_one
      pair.in_other
      pair.time
      pair.number
      pair.other_number

-- the states after both differ in that input alone, and there in nothing that shows
pub states-alike : (input : ℕ) (one other : Sequence) → EqualButFor input one other → OffThroughout input one
    → AlikeButAt input (state_after one) (state_after other)
unfolding state_after
states-alike input _ _ (begun profile) off = alike_itself input (state_after (started profile))
states-alike input _ _ (equal given earlier otherEarlier before) off =
    equal-step input earlier otherEarlier (states-alike input earlier otherEarlier before off.1)
    (off-now input earlier off.1)
    given
    (off-now input (given following earlier) off)
states-alike input _ _ (paired one other earlier otherEarlier pair before) off =
    pair_step input earlier otherEarlier (states-alike input earlier otherEarlier before off.1)
    (off-now input earlier off.1)
    one
    other
    pair

-- ---- the theorems

module _ (input : ℕ) (one other : Sequence) (equal : EqualButFor input one other) (off : OffThroughout input one) where
  states : AlikeButAt input (state_after one) (state_after other)
  states = states-alike input one other equal off

  is_off : Off input (state_after one).inputs
  is_off = off-now input one off

  -- the answer line, whatever number it is answered with
  pub answers-equal : (number : ℕ) → answer_of number (state_after one) ≡ answer_of number (state_after other)
  answers-equal = answer-alike input (state_after one) (state_after other) states is_off (sequence-calm one)

  pub switches-equal : (state_after one).switch ≡ (state_after other).switch
  switches-equal = switch-alike input (state_after one) (state_after other) states is_off (sequence-calm one)

  pub codes_equal : outgoing_codes (state_after one) ≡ outgoing_codes (state_after other)
  codes_equal = codes-alike input (state_after one) (state_after other) states is_off (sequence-calm one)

  pub words-equal : outgoing_words (state_after one) ≡ outgoing_words (state_after other)
  words-equal = words-alike input (state_after one) (state_after other) states is_off (sequence-calm one)

  -- what a choice sees of the selected input
  pub candidates-equal : selected_of (state_after one) ≡ selected_of (state_after other)
  candidates-equal = selected-alike input (state_after one) (state_after other) states is_off (sequence-calm one)

  -- the number of any event that comes now
  pub number-equal : (given : Given) → number_after given one ≡ number_after given other
  number-equal = equal-number input one other states is_off

-- after the last event of each
pub nothing-shows : (input : ℕ) (one other : Given) (earlier otherEarlier : Sequence)
    → EqualButFor input (one following earlier) (other following otherEarlier)
    → OffThroughout input (one following earlier)
    → NothingShows one earlier other otherEarlier
nothing-shows input one other earlier otherEarlier butFor off =
    let same : number_after one earlier ≡ number_after other otherEarlier = number butFor off.1 in
    record {
      number = same;
      answer =
          answers-equal input (one following earlier) (other following otherEarlier) butFor off
          (number_after one earlier) ∙
          ap (λ (number : ℕ). answer_of number (state_after (other following otherEarlier))) same;
      switch = switches-equal input (one following earlier) (other following otherEarlier) butFor off;
      codes = codes_equal input (one following earlier) (other following otherEarlier) butFor off;
      words = words-equal input (one following earlier) (other following otherEarlier) butFor off;
    }
  where
    number : {one other : Given} {earlier otherEarlier : Sequence}
        → EqualButFor input (one following earlier) (other following otherEarlier)
        → OffThroughout input earlier
        → number_after one earlier ≡ number_after other otherEarlier
    number (equal given earlier otherEarlier before) off = number-equal input earlier otherEarlier before off given
    number (paired one other earlier otherEarlier pair before) off = pair.number ∙ sym pair.other_number

-- L14: "Then all answer lines, both selectors' switches and all sixteen outgoing codes are equal after every event."
pub line_under_test : (input : ℕ) (one other : Sequence) → EqualButFor input one other → OffThroughout input one
    → NothingEverShows one other
line_under_test input _ _ (begun profile) off = tt
line_under_test input _ _ (equal given earlier otherEarlier before) off = (
  nothing-shows input given given earlier otherEarlier (equal given earlier otherEarlier before) off,
  line_under_test input earlier otherEarlier before off.1,
)
line_under_test input _ _ (paired one other earlier otherEarlier pair before) off = (
  nothing-shows input one other earlier otherEarlier (paired one other earlier otherEarlier pair before) off,
  line_under_test input earlier otherEarlier before off.1,
)
