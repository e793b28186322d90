-- The time before which nothing is due, after an event that a watch takes: that of the state after it, and still to
-- come. Assumes nothing.
use Prim.Native.Nat.{ℕ, ◌≤◌, ◌<◌}
use mathlib.Core.Bool.{true, false}
use mathlib.Core.Path.{◌≡◌, refl, sym, ◌∙◌, ap, subst}
use native.Mathlib.Omega.{arith}
use lib.Dec.{leb}
use lib.ListN.{length, set}
use lib.Seq.{get_or-set_same}
use borrow.Author.Tests.{le-leb, lt-ltb, leb-false}
use Rattle.numbers.specs.declared.Event.{Event}
use Rattle.numbers.specs.Refusal.{accepted}
use Rattle.numbers.proofs.Truth.{by_bool, or_first, or_second}
use Rattle.frame.specs.declared.FrameRead.{FrameRead}
use Rattle.input.specs.declared.Input.{Input}
use Rattle.input.specs.Record.{fresh_input}
use Rattle.selector.specs.declared.Selector.{Selector}
use Rattle.selector.specs.State.{decided}
use Rattle.due.specs.Next.{lesser, next_of, next_due}
use Rattle.due.proofs.Millisecond.{lesser-one, lesser-other}
use Rattle.due.proofs.Jump.{next_due-later}
use Rattle.events.specs.Step.{Stepped, early_number, step_read}
use Rattle.quickstep.specs.Own.{is_command, is_served, seen_alike, own_take, own_step}
use Rattle.quickstep.specs.Watch.{Watch, moved_to, due_anew, due_after, served_watch, completed, own_put, take_step}
use Rattle.quickstep.proofs.Due.{lesser-least, next_among-least, due_anew-bound, due_after-later}
use Rattle.quickstep.proofs.Step.{own_before, own_after, own_taken, step_read-own, step_read-time, ever, inside}
use Rattle.quickstep.proofs.SameAsPlain.{Kept, own-here, own-early, put_back, take_step-right}

-- such a time of a state at an event: made anew once it has come
abbrev pub anew : Selector → ℕ → ℕ → ℕ
anew state due time = due_anew state.inputs state.mode state.time due time

-- one before which nothing is due stays
pub due_after-kept : (due time : ℕ) (state : Selector) → time < due → due ≤ next_due state → due_after due time state ≡ due
unfolding due_after lesser
due_after-kept due time state before kept = rw (lt-ltb _ _ before, le-leb _ _ kept)

-- what is next due of a state is due of an input that was put into it no earlier
put-least : (state : Selector) (index time : ℕ) (input : Input) → index < length state.inputs → index < 16
    → next_due (moved_to state (set state.inputs index input) time) ≤ next_of input state.mode time
put-least state index time input room few =
    subst
    (λ (own : Input). next_due (moved_to state (set state.inputs index input) time) ≤ next_of own state.mode time)
    (get_or-set_same state.inputs index input fresh_input room)
    (next_among-least (set state.inputs index input) state.mode time 16 index few)

-- a choice makes nothing due
decided-due : (state : Selector) → next_due (decided state) ≡ next_due state
unfolding decided
decided-due state = refl

module _ (watch : Watch) (event : Event) (read : FrameRead) (kept : Kept watch)
    (none : early_number watch.state event read ≡ accepted) where
  abbrev state : Selector
  state = watch.state

  -- what is due, where it has been made anew
  abbrev due : ℕ
  due = anew watch.state watch.due event.time

  abbrev after : Selector
  after = (step_read watch.state event read).state

  bound : due ≤ next_due state
  bound = due_anew-bound state watch.due event.time kept.due

  few : event.input < 16
  few = inside state event read watch.due kept.calm kept.due none

  served-due : is_served due event.kind event.time ≡ true
      → (take_step watch event read).due ≡ due_after due event.time after
  unfolding take_step own_put completed served_watch own_step
  served-due serves = rw (own-early watch event read kept, none, serves, put_back watch event read kept)

  module _ (waits : is_served due event.kind event.time ≡ false) where
    soon : event.time < due
    unfolding is_served
    soon = leb-false due event.time (or_first (leb due event.time) (is_command event.kind) waits)

    free : is_command event.kind ≡ false
    unfolding is_served
    free = or_second (leb due event.time) (is_command event.kind) waits

    abbrev own : ℕ
    own = next_of (own_after state event read) state.mode event.time

    own-due : (take_step watch event read).due ≡ lesser due own
    unfolding take_step own_put completed own_step own_take
    own-due =
        by_bool (seen_alike (own_before state event) (own_after state event read))
        (λ alike. rw (own-early watch event read kept, none, waits, own-here watch event read kept few, alike))
        (λ unlike. rw (own-early watch event read kept, none, waits, own-here watch event read kept few, unlike))

    -- the own input is one of the sixteen
    own-later : next_due after ≤ own
    own-later =
        subst (λ (then : Selector). next_due then ≤ own)
        (sym (ap (λ (step : Stepped). step.state)
        (step_read-own state event read due kept.calm bound none soon free)))
        (subst (λ (next : ℕ). next ≤ own) (sym (decided-due (own_taken state event read)))
        (put-least state event.input event.time (own_after state event read)
        (omega (arith, few, kept.calm.count)) few))

    -- and nothing is due before the time that the watch keeps
    own-bound : lesser due own ≤ next_due after
    own-bound =
        let right = take_step-right watch event read kept in
        subst (λ (next : ℕ). next ≤ next_due after) own-due
        (subst (λ (then : Selector). (take_step watch event read).due ≤ next_due then) right.state right.kept.due)

    least : lesser due own ≡ lesser due (next_due after)
    least =
        omega (
          arith,
          lesser-least (lesser due own) due (next_due after) (lesser-one due own) own-bound,
          lesser-least (lesser due (next_due after)) due own (lesser-one due (next_due after))
              (omega (arith, lesser-other due (next_due after), own-later)),
        )

    taken-due : (take_step watch event read).due ≡ due_after due event.time after
    unfolding due_after
    taken-due = own-due ∙ least ∙ (rw (lt-ltb event.time due soon))

  -- AN EVENT TAKEN: what is kept is that of the state after it, whether the own input took it or it was served.
  pub take_step-due : (take_step watch event read).due ≡ due_after due event.time after
  take_step-due = by_bool (is_served due event.kind event.time) served-due taken-due

  -- and it is later than the state's time
  pub take_step-later : after.time < (take_step watch event read).due
  take_step-later =
      let there : after.time ≡ event.time = step_read-time state event read kept.calm none in
      let next : after.time < next_due after =
      next_due-later after (omega (arith, there, ever state event read watch.due kept.calm kept.due none)) in
      subst (λ (next : ℕ). after.time < next) (sym take_step-due)
      (due_after-later due event.time after after.time (omega (arith, there)) next)
