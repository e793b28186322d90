-- An event as it is given, and as it is recorded. Cited by `src/lib.rt`. Assumes nothing.
use Rattle.std.specs.Prelude.{ℕ, cond, List, [], eqb}
use Rattle.numbers.specs.declared.Event.{Event}
use Rattle.numbers.specs.Recorded.{Recorded, said_event}
use Rattle.numbers.specs.declared.profile.Profile.{Profile}
use Rattle.numbers.specs.From.{From}
use Rattle.numbers.specs.Kind.{kind_frame, kind_tick}
use Rattle.frame.specs.declared.FrameRead.{FrameRead}
use Rattle.frame.specs.Read.{read_code, code_of_read}

-- an event and the frame lent with it
pub record Given : Type 0 where
  pub event : Event
  pub frame : List ℕ

-- a sequence of events from a fresh start of a profile, the latest first
abbrev pub Sequence : Type 0
Sequence = From Given

-- a tick at a time
abbrev pub tick_at : ℕ → Given
tick_at time = record { event = record { kind = kind_tick; time = time; input = 0; argument = 0 }; frame = [] }

-- an event's argument as it is recorded: a frame's is the code that it carried
unfoldable pub recorded_argument : ℕ → ℕ → FrameRead → ℕ
recorded_argument kind argument read = cond (eqb kind kind_frame) (code_of_read read) argument

-- an event with its argument as it is recorded
abbrev pub read_event : Event → FrameRead → Event
read_event event read =
    record {
      kind = event.kind;
      time = event.time;
      input = event.input;
      argument = recorded_argument event.kind event.argument read;
    }

-- an event as it is recorded: a report with the quality that it says in the profile
abbrev pub recorded_event : Profile → Event → FrameRead → Recorded
recorded_event profile event read = said_event profile (read_event event read)

-- an event given, as it is recorded
abbrev pub as_recorded : Profile → Given → Recorded
as_recorded profile given = recorded_event profile given.event (read_code given.frame)
