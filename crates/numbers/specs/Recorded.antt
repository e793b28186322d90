-- An event as it is recorded. Cited by no code. Assumes nothing.
use Rattle.std.specs.Prelude.{ℕ}
use Rattle.numbers.specs.declared.Event.{Event}
use Rattle.numbers.specs.declared.profile.Profile.{Profile}
use Rattle.numbers.specs.declared.quality.Quality.{Quality}
use Rattle.numbers.specs.Codes.{said_in}

-- an event as it is recorded: a frame's argument is the code that it carried, and a report has the quality that it
-- says; any other says nothing, 0
pub record Recorded : Type 0 where
  pub kind : ℕ
  pub time : ℕ
  pub input : ℕ
  pub argument : ℕ
  pub said : Quality

-- an event with what it says in a profile
abbrev pub said_event : Profile → Event → Recorded
said_event profile event =
    record {
      kind = event.kind;
      time = event.time;
      input = event.input;
      argument = event.argument;
      said = said_in profile event.kind event.argument;
    }
