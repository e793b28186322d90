-- What a watch makes of an event: its own input takes it, at once where it says again what was said before, and what is
-- left is done on all sixteen. Cited by `src/lib.rt`.
-- Assumes nothing.
use Rattle.std.specs.Prelude.{ℕ, ◌%◌, Bool, not, ◌&&◌, cond, List, ltb, get_or, set}
use Rattle.numbers.specs.declared.Answer.{Answer}
use Rattle.numbers.specs.declared.Event.{Event}
use Rattle.numbers.specs.declared.profile.Profile.{Profile}
use Rattle.numbers.specs.Inputs.{input_count}
use Rattle.numbers.specs.Refusal.{accepted}
use Rattle.frame.specs.declared.FrameRead.{FrameRead}
use Rattle.input.specs.declared.Input.{Input}
use Rattle.input.specs.Record.{fresh_input}
use Rattle.selector.specs.declared.Selector.{Selector}
use Rattle.selector.specs.State.{fresh_selector, decided}
use Rattle.selector.specs.Answer.{answer_of}
use Rattle.due.specs.Next.{lesser, next_of_all, next_due}
use Rattle.events.specs.Step.{step_read}
use Rattle.quickstep.specs.declared.Left.{Left}
use Rattle.quickstep.specs.declared.Left.TheVariants.{Nothing, Choice, Service}
use Rattle.quickstep.specs.declared.Own.{Own}
use Rattle.quickstep.specs.Again.{says_again, again_own}
use Rattle.quickstep.specs.Own.{own_step, is_left}

-- the state; a time before which nothing is due; the answer to the last event, which but for its number changes only
-- where a choice is made; and how many due moments that event's tick served
pub record Watch : Type 0 where
  pub state : Selector
  pub due : ℕ
  pub answer : Answer
  pub count : ℕ

-- a watch by its parts
abbrev pub watch_of : Selector → ℕ → Answer → ℕ → Watch
watch_of state due answer count = record { state = state; due = due; answer = answer; count = count }

-- an answer with another number
abbrev pub numbered : ℕ → Answer → Answer
numbered number answer =
    record {
      number = number;
      selected = answer.selected;
      clockstate = answer.clockstate;
      clockquality = answer.clockquality;
      switchkind = answer.switchkind;
      switchinput = answer.switchinput;
    }

-- a fresh state
abbrev pub fresh_watch : Profile → Watch
fresh_watch profile =
    let state = fresh_selector profile in
    watch_of state (next_due state) (answer_of accepted state) 0

-- the state at another time, with other inputs
abbrev pub moved_to : Selector → List Input → ℕ → Selector
moved_to state inputs time =
    record {
      inputs = inputs;
      time = time;
      switch = state.switch;
      selection = state.selection;
      profile = state.profile;
      mode = state.mode;
      waslocked = state.waslocked;
    }

-- a time before which nothing is due, at an event: once it has come, when something is next due of the inputs, later
-- than their time
unfoldable pub due_anew : List Input → Bool → ℕ → ℕ → ℕ → ℕ
due_anew inputs mode last due time = cond (ltb time due) due (next_of_all inputs mode last)

-- such a time of the state that an event left: till it has come it is only lessened
unfoldable pub due_after : ℕ → ℕ → Selector → ℕ
due_after due time state = cond (ltb time due) (lesser due (next_due state)) (next_due state)

-- the plain step
unfoldable pub served_watch : Selector → ℕ → Event → FrameRead → Watch
served_watch state due event read =
    let after = step_read state event read in
    watch_of after.state (due_after due event.time after.state) (answer_of after.number after.state)
    after.count

-- what is left to do, on the state with the event's own input in it: nothing; a choice; or all of the plain step
unfoldable pub completed : Selector → ℕ → Answer → Left → Event → FrameRead → Watch
completed state due answer Nothing event read = watch_of state due answer 0
completed state due answer Choice event read =
    watch_of (decided state) due (answer_of answer.number (decided state)) 0
completed state due answer Service event read = served_watch state due event read

-- where an event's own input stands
abbrev pub own_index : Event → ℕ
own_index event = event.input % input_count

-- what an event made of its own input put into the state, and what is left done
unfoldable pub own_put : Watch → Own → Event → FrameRead → Watch
own_put watch own event read =
    completed (moved_to watch.state (set watch.state.inputs (own_index event) own.input) own.time) own.due
    (numbered own.number watch.answer)
    own.left
    event
    read

-- the event's own input before it
abbrev pub own_at : Selector → Event → Input
own_at state event = get_or state.inputs (own_index event) fresh_input

-- what an event makes of its own input, where nothing is due before a time
abbrev pub own_from : Selector → ℕ → Event → FrameRead → Own
own_from state due event read =
    own_step (own_at state event) state.profile state.mode state.time due event read

-- one event, taken by its own input, where nothing is due before a time
abbrev pub take_with : Watch → ℕ → Event → FrameRead → Watch
take_with watch due event read = own_put watch (own_from watch.state due event read) event read

-- the time before which a watch knows at an event that nothing is due
abbrev pub due_at : Watch → Event → ℕ
due_at watch event =
    let state = watch.state in
    due_anew state.inputs state.mode state.time watch.due event.time

-- one event, taken by its own input, once it is known again what is due
unfoldable pub take_step : Watch → Event → FrameRead → Watch
take_step watch event read = take_with watch (due_at watch event) event read

-- an event that a watch may put at once: it says again what was said before
abbrev pub is_put_at_once : Watch → Event → FrameRead → Bool
is_put_at_once watch event read =
    let state = watch.state in
    says_again (own_at state event) state.profile state.time watch.due event read

-- one event: said again, and put at once; or taken
unfoldable pub watch_step : Watch → Event → FrameRead → Watch
watch_step watch event read =
    cond (is_put_at_once watch event read)
    (own_put watch (again_own (own_at watch.state event) watch.due event) event read)
    (take_step watch event read)

-- the answer to an event is made anew, by a choice or by the plain step; otherwise it is the answer before it with
-- another number
unfoldable pub is_anew : Watch → Event → FrameRead → Bool
is_anew watch event read =
    not (is_put_at_once watch event read) && is_left (own_from watch.state (due_at watch event) event read).left
