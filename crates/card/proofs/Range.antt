-- The inputs that a selector names stay among the sixteen, so that C may index by what it reads. Assumes nothing.
use Prim.Native.Nat.{ℕ, zero, suc, ◌≤◌, ◌<◌, ◌+◌}
use mathlib.Core.Bool.{Bool, true, false, ◌&&◌, true≢false}
use mathlib.Core.List.{List}
use mathlib.Core.Logic.{inl, inr, ◌≢◌}
use mathlib.Core.Path.{◌≡◌, refl, sym, subst}
use native.Mathlib.Omega.{arith}
use lib.Dec.{eqb, leb}
use borrow.Author.Tests.{ne_eqb, leb-true, le-leb, eqb-true}
use Rattle.std.specs.Prelude.{Option, Some, None}
use Rattle.numbers.specs.declared.InputNumber.{InputNumber}
use Rattle.numbers.specs.declared.Answer.{Answer}
use Rattle.numbers.specs.declared.Event.{Event}
use Rattle.numbers.specs.Recorded.{Recorded}
use Rattle.numbers.specs.From.{started, ◌following◌}
use Rattle.numbers.specs.Profile.{limits_of}
use Rattle.numbers.specs.Inputs.{last_input, input_count}
use Rattle.numbers.specs.Kind.{kind_frame}
use Rattle.numbers.specs.Refusal.{accepted}
use Rattle.numbers.proofs.Truth.{by_bool}
use Rattle.frame.specs.declared.FrameRead.{FrameRead}
use Rattle.frame.specs.Read.{read_code}
use Rattle.choice.proofs.Choosing.{Inside}
use Rattle.switch.specs.declared.Switch.{Switch}
use Rattle.switch.specs.declared.Switch.TheVariants as W
use Rattle.switch.specs.OneChoice.{judged, decide}
use Rattle.selector.specs.declared.Selector.{Selector}
use Rattle.selector.specs.Clock.{no_input, locked, switch_manual, clock_state, selected_number, switch_number, switch_input}
use Rattle.selector.specs.Answer.{selected_candidate, answer_of}
use Rattle.selector.specs.State.{candidates_of, decided, all_brought_to}
use Rattle.selector.specs.State as State
use Rattle.due.specs.Next.{next_due}
use Rattle.due.specs.Served.{served, served_from, ticked}
use Rattle.events.specs.Given.{Sequence}
use Rattle.events.specs.Refusals.{frame_refusal, early_refusal}
use Rattle.events.specs.Step.{Stepped, recorded_argument, recorded_event, event_taken, at_its_moment, kind_at, early_number, late_number, step_read, step}
use Rattle.events.specs.Sequence.{state_after}
use Rattle.events.proofs.Refused.{accepted-input}
use Rattle.events.proofs.Calm.{accepted_or_not, step_read-refused, step_read_barred, step_read-taken}
use Rattle.inplace.specs.Lists.{selector_at}
use Rattle.inplace.proofs.Named.{On, switch_of-on, selection_of-inside, judged-on, selected_by-inside, commanded-on}
use Rattle.quickstep.specs.declared.Left.{Left}
use Rattle.quickstep.specs.declared.Left.TheVariants as L
use Rattle.quickstep.specs.declared.Own.{Own}
use Rattle.quickstep.specs.Again.{says_again, again_own}
use Rattle.quickstep.specs.Watch.{Watch, numbered, served_watch, completed, own_put, own_at, take_step, watch_step}
use Rattle.onestep.specs.Watched.{watch_at}
use Rattle.card.specs.Lent.{event_of, read_for, names_input, is_ranged, ranged_watch, event_lent, step_lent}
use Rattle.card.specs.Range.{IsInput, InRange, AnyLent}

-- ---- a frame is looked at for a frame event alone

pub read_for-unread : (kind : ℕ) (frame other : List ℕ) → kind ≢ kind_frame → read_for kind frame ≡ read_for kind other
unfolding read_for
read_for-unread kind frame other n = rw (ne_eqb _ _ n)

-- and so a step is the one that reads it always
pub step_read-read_for : (state : Selector) (event : Event) (frame : List ℕ)
    → step_read state event (read_for event.kind frame) ≡ step state event frame
unfolding step step_read read_for early_refusal frame_refusal recorded_argument
step_read-read_for state event frame = by_bool (eqb event.kind kind_frame) (λ y. rw y) (λ n. rw n)

-- ---- the inputs that a selector names

-- what a selector names are inputs
pub record Named (state : Selector) : Type 0 where
  pub switch : On state.switch
  pub selection : Inside state.selection

-- of any numbers
pub selector_at_named : (times small wider : List ℕ) → Named (selector_at times small wider)
unfolding selector_at
selector_at_named times small wider = record { switch = switch_of-on _ _; selection = selection_of-inside _ _ }

decided_named : (state : Selector) → On state.switch → Named (decided state)
unfolding decided decide
decided_named state on =
    let stands : On (judged (candidates_of state.profile state.inputs state.mode) state.switch) =
    judged-on (candidates_of state.profile state.inputs state.mode) state.switch on in
    record {
      switch = stands;
      selection =
          selected_by-inside (candidates_of state.profile state.inputs state.mode)
          (judged (candidates_of state.profile state.inputs state.mode) state.switch)
          state.selection
          stands;
    }

moment_named : (state : Selector) (time : ℕ) → Named state → Named (State.ticked_once state time)
unfolding State.ticked_once
moment_named state time named = decided_named (all_brought_to state time) named.switch

served_from_named : (left : ℕ) (state : Selector) (count time : ℕ) → Named state
    → Named (served_from left state count time).state
unfolding served_from
served_from_named zero state count time named = moment_named state time named
served_from_named (suc left) state count time named =
    by_bool (leb (next_due state) time)
    (λ e. rw e
    (served_from_named left (State.ticked_once state (next_due state)) (count + 1) time
    (moment_named state (next_due state) named)))
    (λ e. rw e (moment_named state time named))

ticked_named : (state : Selector) (time : ℕ) → Named state → Named (ticked state time)
unfolding served
ticked_named state time named = served_from_named 48 state 0 time named

at_its_moment_named : (state : Selector) (event : Recorded) → event.input < input_count → Named state
    → Named (at_its_moment state event)
unfolding at_its_moment
at_its_moment_named state event few named =
    decided_named (event_taken state event)
    (commanded-on event.kind event.input state.switch few named.switch)

-- A step on a state whose names are inputs leaves such a state.
pub step_read_named : (state : Selector) (event : Event) (read : FrameRead) → Named state
    → Named (step_read state event read).state
step_read_named state event read named =
    accepted_or_not (early_number state event read)
    (λ none. accepted_or_not (late_number (ticked state event.time) event)
    (λ later. subst (λ (after : Stepped). Named after.state) (sym (step_read-taken state event read none later))
    (at_its_moment_named (ticked state event.time) (recorded_event (ticked state event.time).profile event read)
    (accepted-input (limits_of state.profile) state.time (kind_at state.inputs event.input) event read none)
    (ticked_named state event.time named)))
    (λ given. subst (λ (after : Stepped). Named after.state) (sym (step_read_barred state event read none given))
    (ticked_named state event.time named)))
    (λ given. subst (λ (after : Stepped). Named after.state) (sym (step_read-refused state event read given)) named)

-- After any sequence of events.
pub sequence_named : (sequence : Sequence) → Named (state_after sequence)
unfolding state_after step
sequence_named (started profile) = record { switch = tt; selection = tt }
sequence_named (given following earlier) =
    step_read_named (state_after earlier) given.event (read_code given.frame) (sequence_named earlier)

-- ---- what C reads

selected-input : (selection : Option InputNumber) → Inside selection → IsInput (selected_number selection)
unfolding selected_number
selected-input None inside = inr refl
selected-input (Some number) inside = inl (omega arith)

switch-input : (switch : Switch) → On switch → IsInput (switch_input switch)
unfolding switch_input
switch-input W.Nothing on = inr refl
switch-input (W.Forced number) on = inl (omega arith)
switch-input (W.Manual number) on = inl (omega arith)

switch-kind : (switch : Switch) → switch_number switch ≤ switch_manual
unfolding switch_number
switch-kind W.Nothing = omega arith
switch-kind (W.Forced number) = omega arith
switch-kind (W.Manual number) = omega arith

clock_state-most : (usable waslocked : Bool) → clock_state usable waslocked ≤ locked
unfolding clock_state
clock_state-most true waslocked = omega arith
clock_state-most false true = omega arith
clock_state-most false false = omega arith

pub answer_in_range : (number : ℕ) (state : Selector) → Named state → InRange (answer_of number state)
unfolding answer_of
answer_in_range number state named =
    record {
      selected = selected-input state.selection named.selection;
      switchinput = switch-input state.switch named.switch;
      clockstate =
          clock_state-most (selected_candidate state.profile state.inputs state.mode state.selection).usable
          state.waslocked;
      switchkind = switch-kind state.switch;
    }

-- an answer with another number names the same
pub numbered_in_range : (number : ℕ) (told : Answer) → InRange told → InRange (numbered number told)
numbered_in_range number told range =
    record { selected = range.selected; switchinput = range.switchinput; clockstate = range.clockstate; switchkind = range.switchkind }

-- ---- an answer that names what is there

ranged_input : (number : ℕ) → names_input number ≡ true → IsInput number
ranged_input number is =
    by_bool (leb number last_input) (λ y. inl (leb-true number last_input y))
    (λ n. inr (eqb-true number no_input (rw n at is)))

is_ranged_range : (told : Answer) → is_ranged told ≡ true → InRange told
unfolding is_ranged
is_ranged_range told is =
    let all =
    four (names_input told.selected) (names_input told.switchinput) (leb told.clockstate locked)
    (leb told.switchkind switch_manual) is in
    record {
      selected = ranged_input told.selected all.0;
      switchinput = ranged_input told.switchinput all.1;
      clockstate = leb-true told.clockstate locked all.2;
      switchkind = leb-true told.switchkind switch_manual all.3;
    }
  where
    four : (a b c d : Bool) → (a && b && c && d) ≡ true → (a ≡ true) × (b ≡ true) × (c ≡ true) × (d ≡ true)
    four true true true true e = (refl, refl, refl, refl)
    four true true true false e = absurd (true≢false (sym e))
    four true true false d e = absurd (true≢false (sym e))
    four true false c d e = absurd (true≢false (sym e))
    four false b c d e = absurd (true≢false (sym e))

pub in_range_ranged : (told : Answer) → InRange told → is_ranged told ≡ true
unfolding is_ranged
in_range_ranged told range =
    rw (
      names told.selected range.selected,
      names told.switchinput range.switchinput,
      le-leb told.clockstate locked range.clockstate,
      le-leb told.switchkind switch_manual range.switchkind,
    )
  where
    names : (number : ℕ) → IsInput number → names_input number ≡ true
    names number (inl within) = rw (le-leb number last_input within)
    names number (inr none) = rw none

-- ---- any step

ranged_state : (watch : Watch) → (ranged_watch watch).state ≡ watch.state
unfolding ranged_watch
ranged_state watch = by_bool (is_ranged watch.answer) (λ y. rw y) (λ n. rw n)

ranged_in_range : (watch : Watch) → Named watch.state → InRange (ranged_watch watch).answer
unfolding ranged_watch
ranged_in_range watch named =
    by_bool (is_ranged watch.answer) (λ y. rw y (is_ranged_range watch.answer y))
    (λ n. rw n (answer_in_range accepted watch.state named))

-- what is left to do once an own input has taken an event
completed_in_range : (state : Selector) (due : ℕ) (answer : Answer) (left : Left) (event : Event) (read : FrameRead)
    → Named state → InRange answer
    → InRange (completed state due answer left event read).answer
unfolding completed served_watch
completed_in_range state due answer L.Nothing event read named range = range
completed_in_range state due answer L.Choice event read named range =
    answer_in_range answer.number (decided state) (decided_named state named.switch)
completed_in_range state due answer L.Service event read named range =
    answer_in_range (step_read state event read).number (step_read state event read).state
    (step_read_named state event read named)

put_in_range : (watch : Watch) (own : Own) (event : Event) (read : FrameRead) → Named watch.state
    → InRange watch.answer
    → InRange (own_put watch own event read).answer
unfolding own_put
put_in_range watch own event read named range =
    completed_in_range _ _ _ _ event read (record { switch = named.switch; selection = named.selection })
    (numbered_in_range own.number watch.answer range)

step_in_range : (watch : Watch) (event : Event) (read : FrameRead) → Named watch.state → InRange watch.answer
    → InRange (watch_step watch event read).answer
unfolding watch_step take_step
step_in_range watch event read named range =
    let state = watch.state in
    let says = says_again (own_at state event) state.profile state.time watch.due event read in
    by_bool says
    (λ y. rw y (put_in_range watch (again_own (own_at state event) watch.due event) event read named range))
    (λ n. rw n (put_in_range watch _ event read named range))

-- Whatever the arrays held, C may index by what it reads; and what is lent beside another event than a frame changes
-- nothing.
pub any_lent : (times small wider due told : List ℕ) (kind time input argument : ℕ) (frame : List ℕ)
    → AnyLent times small wider due told kind time input argument frame
unfolding step_lent event_lent watch_at
any_lent times small wider due told kind time input argument frame =
    let watch = watch_at times small wider due told in
    let named = selector_at_named times small wider in
    record {
      in_range =
          step_in_range (ranged_watch watch) (event_of kind time input argument) (read_for kind frame)
          (subst Named (sym (ranged_state watch)) named)
          (ranged_in_range watch named);
      unread = λ other lent. rw (read_for-unread kind frame lent other);
    }
