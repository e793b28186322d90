-- An event whose answer is not made anew, and that doesn't set what a port sends, changes nothing that shows. Assumes
-- nothing.
use Prim.Native.Nat.{ℕ}
use mathlib.Core.Bool.{Bool, true, false, not, cond}
use mathlib.Core.List.{List, map}
use mathlib.Core.Path.{◌≡◌, refl, sym, ◌∙◌, ap}
use lib.Dec.{eqb}
use lib.ListN.{get_or, set, get_or-map}
use lib.Seq.{map-set_same}
use Rattle.std.proofs.Common.{Option, Some, None}
use Rattle.numbers.specs.declared.Answer.{Answer}
use Rattle.numbers.specs.declared.Event.{Event}
use Rattle.numbers.specs.Codes.{code_of_quality}
use Rattle.numbers.specs.Kind.{kind_frame, kind_sending}
use Rattle.numbers.specs.Profile.{limits_of, marks_of, is_marked, told_by}
use Rattle.numbers.specs.Refusal.{accepted}
use Rattle.numbers.proofs.Truth.{by_bool}
use Rattle.frame.specs.declared.FrameRead.{FrameRead}
use Rattle.frame.specs.Read.{read_code}
use Rattle.input.specs.declared.Input.{Input}
use Rattle.input.specs.Record.{fresh_input, settings_after, input_at_moment, after_event}
use Rattle.eventlog.specs.declared.LineRead.{LineRead}
use Rattle.selector.specs.declared.Selector.{Selector}
use Rattle.selector.specs.Answer.{answer_of, quality_of, sign_for, outgoing_codes, outgoing_code, selected_number, ports}
use Rattle.events.specs.Given.{Given, Sequence}
use Rattle.events.specs.Refusals.{early_refusal}
use Rattle.events.specs.Sequence.{state_after}
use Rattle.events.specs.Step.{input_after, step}
use Rattle.events.proofs.Calm.{sequence-calm}
use Rattle.quickstep.specs.declared.Own.{Own}
use Rattle.quickstep.specs.declared.Left.TheVariants as L
use Rattle.quickstep.specs.Again.{again_input, again_own}
use Rattle.quickstep.specs.Own.{is_served, own_take, own_step}
use Rattle.quickstep.specs.Watch.{Watch, numbered, moved_to, completed, own_index, own_put, own_at, own_from, due_at, take_step, is_put_at_once, watch_step, is_anew}
use Rattle.quickstep.proofs.Anew.{nothing_left, answer-kept}
use Rattle.quickstep.proofs.SameAsPlain.{numbered-answer, Kept, watch_step-right}
use Rattle.logline.specs.Watched.{watched_of, is_made_anew}
use Rattle.lanes.specs.declared.View.{View}
use Rattle.lanes.specs.Value.{answer_value}
use Rattle.verdictlines.specs.Bench.{shown_by, sets_sending}
use Rattle.verdictlines.specs.Quiet.{watch_after, QuietRight, TakenQuietly}

-- ---- what a port sends stays

-- what each of three ways has, the one that is gone has
by_ways : (early served : Bool) (one other third : Own) (sends : Bool) → one.input.settings.sending ≡ sends
    → other.input.settings.sending ≡ sends
    → third.input.settings.sending ≡ sends
    → (cond (not early) one (cond served other third)).input.settings.sending ≡ sends
by_ways false served one other third sends a b c = a
by_ways true true one other third sends a b c = b
by_ways true false one other third sends a b c = c

again-sends : (input : Input) (kind time : ℕ) → (again_input input kind time).settings.sending ≡ input.settings.sending
unfolding again_input
again-sends input kind time = by_bool (eqb kind kind_frame) (λ t. rw t) (λ f. rw f)

own-sends : (state : Selector) (due : ℕ) (event : Event) (frame : FrameRead) → eqb event.kind kind_sending ≡ false
    → (own_from state due event frame).input.settings.sending ≡ (own_at state event).settings.sending
unfolding own_step own_take input_after after_event input_at_moment settings_after
own-sends state due event frame unsent =
    by_ways
    (eqb (early_refusal (limits_of state.profile) state.time (own_at state event).settings.kind event frame) accepted)
    (is_served due event.kind event.time)
    _
    _
    _
    (own_at state event).settings.sending
    refl
    refl
    (rw unsent)

-- ---- what shows

module _ (state : Selector) (index : ℕ) (input : Input) (time : ℕ)
    (sent : input.settings.sending ≡ (get_or state.inputs index fresh_input).settings.sending) where
  abbrev after : Selector
  after = moved_to state (set state.inputs index input) time

  abbrev sends : Input → Bool
  sends one = one.settings.sending

  sent-same : (port : ℕ) → sends (get_or (set state.inputs index input) port fresh_input)
      ≡ sends (get_or state.inputs port fresh_input)
  sent-same port =
      sym (get_or-map sends (set state.inputs index input) port fresh_input)
      ∙ ap (λ (flags : List Bool). get_or flags port (sends fresh_input))
      (map-set_same sends state.inputs index input fresh_input sent)
      ∙ get_or-map sends state.inputs port fresh_input

  module _ (answers : answer_of 0 after ≡ answer_of 0 state) where
    quality-same : quality_of after ≡ quality_of state
    unfolding answer_of
    quality-same = λ j. record { 0 = ap (λ (answer : Answer). answer.clockquality) answers j }

    codes_same : outgoing_codes after ≡ outgoing_codes state
    unfolding outgoing_codes sign_for
    codes_same = λ j.
        map
        (λ (port : ℕ).
        outgoing_code state.mode (sent-same port j) (eqb (selected_number state.selection) port)
        (cond (is_marked (marks_of state.profile) port)
        (code_of_quality state.profile (told_by true (quality-same j)))
        (code_of_quality state.profile (quality-same j))))
        ports

    shows_same : (view : View) → shown_by view after ≡ shown_by view state
    shows_same view = λ j. record { codes = codes_same j; value = answer_value view (answers j) }

-- ---- a watch that keeps what it has to

-- an event with nothing left to do moves its own input and the time
put_moves : (watch : Watch) (own : Own) (event : Event) (read : FrameRead) → own.left ≡ L.Nothing
    → (own_put watch own event read).state
    ≡ moved_to watch.state (set watch.state.inputs (own_index event) own.input) own.time
unfolding own_put completed
put_moves watch own event read none = rw none

module _ (watch : Watch) (kept : Kept watch) (event : Event) (frame : FrameRead)
    (quiet : is_anew watch event frame ≡ false) (unsent : eqb event.kind kind_sending ≡ false) where
  -- the answer of the state that it leaves is that of the state before it
  answers : answer_of 0 (watch_step watch event frame).state ≡ answer_of 0 watch.state
  answers =
      sym ((watch_step-right watch event frame kept).kept.told 0)
      ∙ ap (numbered 0) (answer-kept watch event frame quiet)
      ∙ kept.told 0

  shows-by : (own : Own) → own.left ≡ L.Nothing
      → own.input.settings.sending ≡ (own_at watch.state event).settings.sending
      → watch_step watch event frame ≡ own_put watch own event frame
      → (view : View) → shown_by view (watch_step watch event frame).state ≡ shown_by view watch.state
  shows-by own none sent is view =
      let moved = ap (λ (one : Watch). one.state) is ∙ put_moves watch own event frame none in
      ap (shown_by view) moved
      ∙ shows_same watch.state (own_index event) own.input own.time sent
      (sym (ap (answer_of 0) moved) ∙ answers) view

  -- and shows what it showed
  pub quiet_shows : (view : View) → shown_by view (watch_step watch event frame).state ≡ shown_by view watch.state
  unfolding is_anew watch_step take_step again_own
  quiet_shows view =
      by_bool (is_put_at_once watch event frame)
      (λ again.
      shows-by (again_own (own_at watch.state event) watch.due event) refl
      (again-sends (own_at watch.state event) event.kind event.time) (rw again) view)
      (λ other.
      shows-by (own_from watch.state (due_at watch event) event frame) (nothing_left _ (rw other at quiet))
      (own-sends watch.state (due_at watch event) event frame unsent) (rw other) view)

-- so does a line that is not malformed, and one that is
pub line-shows : (watch : Watch) (line : Option LineRead) → Kept watch → is_made_anew watch line ≡ false
    → sets_sending line ≡ false
    → (view : View) → shown_by view (watched_of watch line).state ≡ shown_by view watch.state
unfolding is_made_anew sets_sending watched_of
line-shows watch None kept quiet unsent view = refl
line-shows watch (Some said) kept quiet unsent view = quiet_shows watch kept said.event said.frame quiet unsent view

-- ---- after any events

-- AN EVENT WHOSE ANSWER IS NOT MADE ANEW, and that sets not what a port sends, changes nothing that shows.
pub quiet_right : (view : View) (events : Sequence) (due : ℕ) (given : Given) → TakenQuietly events due given
    → QuietRight view events given
unfolding state_after step
quiet_right view events due given quietly =
    let watch = watch_after events due in
    let kept : Kept watch =
    record {
      calm = sequence-calm events;
      due = quietly.0;
      told = λ number. numbered-answer number 0 (state_after events);
    } in
    ap (shown_by view) (sym (watch_step-right watch given.event (read_code given.frame) kept).state)
    ∙ quiet_shows watch kept given.event (read_code given.frame) quietly.1 quietly.2 view
