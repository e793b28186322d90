-- What is known of an input, by what the code keeps of it. Cited by `src/lib.rt`; `proofs/WhatHappened` shows that it
-- is what `Status` says. Assumes nothing.
use Rattle.std.specs.Prelude.{ℕ, Bool, cond, get_or}
use Rattle.numbers.specs.declared.profile.Profile.{Profile}
use Rattle.numbers.specs.Inputs.{frame_life}
use Rattle.numbers.specs.Profile.{limits_of, floor_in}
use Rattle.numbers.specs.Quality.{is_failed}
use Rattle.run.specs.declared.Forecast.{Forecast}
use Rattle.run.specs.declared.Run.{Run}
use Rattle.run.specs.Run.{raw_at}
use Rattle.input.specs.declared.Heard.{Heard}
use Rattle.input.specs.declared.Input.{Input}
use Rattle.input.specs.Record.{fresh_input, forecast, passed_of}
use Rattle.choice.specs.Candidate.{is_eligible}
use Rattle.selector.specs.declared.Selector.{Selector}
use Rattle.selector.specs.State.{candidate_for}
use Rattle.status.specs.declared.Status.{Status}
use Rattle.status.specs.Status.{end_ahead}

-- the present run's own timer
unfoldable pub timer_ahead : Run → Forecast → ℕ → ℕ
timer_ahead run forecast time =
    cond run.failed (end_ahead run.began forecast.holdoff time) (end_ahead run.began forecast.wait time)

-- the last frame heard; its quality is failed where none was
unfoldable pub frame_ahead : Heard → ℕ → ℕ
frame_ahead heard time = cond (is_failed heard.frame) 0 (end_ahead heard.framed frame_life time)

-- an input's record at a time, in a profile and a quality mode
unfoldable pub status_of : Profile → Input → Bool → ℕ → Status
status_of profile input mode time =
    record {
      raw = raw_at (forecast input mode) time;
      passed = passed_of input;
      eligible = is_eligible (candidate_for profile mode input);
      timer = timer_ahead input.run (forecast input mode) time;
      frame = frame_ahead input.heard time;
      signal = input.heard.signal;
      kind = input.settings.kind;
      priority = input.settings.priority;
      locked = input.settings.locked;
      floor = floor_in (limits_of profile).freerunning input.settings.floor;
    }

-- an input of a state, at the state's time
abbrev pub input_status : Selector → ℕ → Status
input_status state number =
    status_of state.profile (get_or state.inputs number fresh_input) state.mode state.time
