-- A step in place, a law for each way through it. Assumes nothing.
use Prim.Native.Nat.{ℕ, ◌<◌}
use mathlib.Core.Bool.{Bool}
use mathlib.Core.Path.{◌≡◌, refl, sym, ap, ◌∙◌, subst}
use Rattle.numbers.specs.declared.Event.{Event}
use Rattle.numbers.specs.declared.profile.Profile.{Profile}
use Rattle.numbers.specs.Inputs.{input_count}
use Rattle.numbers.specs.Profile.{limits_of}
use Rattle.numbers.specs.Recorded.{said_event}
use Rattle.numbers.specs.Refusal.{accepted}
use Rattle.frame.specs.declared.FrameRead.{FrameRead}
use Rattle.switch.specs.declared.Switch.{Switch}
use Rattle.switch.specs.Choices.{commanded}
use Rattle.selector.specs.declared.Selector.{Selector}
use Rattle.selector.specs.State.{decided}
use Rattle.inplace.specs.Lists.{with_inputs, with_command, held_switch}
use Rattle.inplace.proofs.Named.{On, switch_of-back, commanded-on}
use Rattle.due.specs.Served.{Served, served_of, served}
use Rattle.events.specs.Step.{inputs_after, mode_after, at_its_moment, kind_at, early_number, stepped, step_ticked, step_read}
use Rattle.events.proofs.EventLaws.{at_its_moment_calls}
use Rattle.events.proofs.Refused.{accepted-input}

-- ---- an event's own moment

pub own-moment : (state inputs command after : Selector) (event : Event) (profile : Profile) (earlier mode : Bool)
    (before switch : Switch)
    → On state.switch → event.input < input_count
    → earlier ≡ state.mode
    → mode ≡ mode_after event.kind event.argument earlier
    → before ≡ state.switch
    → switch ≡ commanded event.kind event.input before
    → profile ≡ state.profile
    → inputs ≡ with_inputs state (inputs_after state.inputs (said_event profile event) mode)
    → command ≡ with_command inputs mode (held_switch switch)
    → after ≡ decided command
    → after ≡ at_its_moment state (said_event state.profile event)
own-moment state inputs command after event profile earlier mode before switch on few e m b s p i c a =
    let stands : On switch =
    subst On (sym s)
    (commanded-on event.kind event.input before few (subst On (sym b) on)) in
    let made : command
    ≡ with_command (with_inputs state (inputs_after state.inputs (said_event state.profile event) mode)) mode switch =
    c ∙ (λ j. with_command (i j) mode (switch_of-back switch stands j)) ∙
    (λ j. with_command (with_inputs state (inputs_after state.inputs (said_event (p j) event) mode)) mode switch) in
    at_its_moment_calls state (said_event state.profile event) mode switch
    (inputs_after state.inputs (said_event state.profile event) mode)
    after
    (m ∙ ap (mode_after event.kind event.argument) e)
    (s ∙ ap (commanded event.kind event.input) b)
    refl
    (a ∙ ap decided made)

-- ---- an event that nothing refuses before its tick

-- it is on one of the sixteen inputs, or on none of them by number 0
pub accepted-few : (state : Selector) (event : Event) (read : FrameRead) → early_number state event read ≡ accepted
    → event.input < input_count
accepted-few state event read none =
    accepted-input (limits_of state.profile) state.time (kind_at state.inputs event.input) event read none

-- its tick, and then refused or the event itself: the step
pub accepted-step : (state ticked after : Selector) (count number : ℕ) (event : Event) (read : FrameRead)
    → early_number state event read ≡ accepted
    → served_of ticked count ≡ served state event.time
    → stepped number count after ≡ step_ticked ticked count event read
    → stepped number count after ≡ step_read state event read
unfolding step_read
accepted-step state ticked after count number event read none s a =
    a ∙ ap (λ (brought : Served). step_ticked brought.state brought.count event read) s ∙ rw none
