-- What the code keeps of one input, and what time and each event make of it. Cited by `src/lib.rt`.
-- Assumes nothing.
use Rattle.std.specs.Prelude.{ℕ, ◌+◌, ◌*◌, Bool, true, false, not, ◌&&◌, ◌||◌, cond, ltb, eqb}
use Rattle.numbers.specs.Recorded.{Recorded}
use Rattle.numbers.specs.From.{started, ◌following◌}
use Rattle.numbers.specs.declared.kind.InputKind.TheVariants as N
use Rattle.numbers.specs.declared.quality.Quality.{Quality}
use Rattle.numbers.specs.Quality.{quality, not_told, failed}
use Rattle.numbers.specs.Inputs.{minute, fresh_holdoff, fresh_wait, reports_needed}
use Rattle.numbers.specs.Kind.{kind_signal, kind_priority, kind_lockout, kind_holdoff, kind_wait, kind_fixed_quality, kind_clear_wait, kind_sending, kind_input_kind, kind_floor, input_kind_of, takes_frames, is_counted, is_frame}
use Rattle.run.specs.declared.Forecast.{Forecast}
use Rattle.run.specs.declared.Run.{Run}
use Rattle.run.specs.Run.{fresh_run, at_moment, brought_to, passed_quality}
use Rattle.input.specs.declared.Heard.{Heard}
use Rattle.input.specs.declared.Settings.{Settings}
use Rattle.input.specs.declared.Input.{Input}
use Rattle.input.specs.Recorded.{History, mode_on}

-- "forget the codes heard, the count of equal ones and the frames heard"
abbrev pub forgotten : Bool → Heard
forgotten signal = record { framed = 0; frame = failed; linequality = failed; last = 0; reports = 0; signal = signal }

-- "signal failing"
abbrev pub fresh_heard : Heard
fresh_heard = forgotten false

-- "Fresh: line, priority 0, not locked, 300 ms, 5 minutes, none fixed, sending on"
abbrev pub fresh_settings : Settings
fresh_settings =
    record {
      holdoff = fresh_holdoff;
      wait = fresh_wait;
      priority = record { 0 = 0 };
      fixed = quality 0;
      floor = 0;
      kind = N.Line;
      locked = false;
      sending = true;
    }

-- a fresh input
abbrev pub fresh_input : Input
fresh_input = record { heard = fresh_heard; run = fresh_run; settings = fresh_settings }

-- the count of equal codes or words, one report later; three stands for any more
unfoldable pub equal_count : ℕ → ℕ → ℕ → ℕ
equal_count code before reports = cond (eqb code before) (cond (ltb reports reports_needed) (reports + 1) reports_needed) 1

-- what codes or words say, once one that says `said` has come so many times in a row
unfoldable pub line_after : Quality → ℕ → Quality → Quality
line_after said reports linequality = cond (ltb reports reports_needed) linequality said

-- what was heard, after an event on this input
unfoldable pub heard_after : Heard → ℕ → ℕ → Quality → ℕ → Heard
heard_after heard kind argument said time =
    let forgets = eqb kind kind_input_kind || (eqb kind kind_signal && not (eqb argument 0) && heard.signal) in
    let frame = is_frame kind && heard.signal in
    let counted = is_counted kind && heard.signal in
    let reports = equal_count argument heard.last heard.reports in
    record {
      framed = cond forgets 0 (cond frame time heard.framed);
      frame = cond forgets failed (cond frame said heard.frame);
      linequality =
          cond forgets failed (cond counted (line_after said reports heard.linequality) heard.linequality);
      last = cond forgets 0 (cond counted argument heard.last);
      reports = cond forgets 0 (cond counted reports heard.reports);
      signal = cond (eqb kind kind_signal) (eqb argument 0) heard.signal;
    }

-- the settings, after an event on this input
unfoldable pub settings_after : Settings → ℕ → ℕ → Settings
settings_after settings kind argument =
    record {
      holdoff = cond (eqb kind kind_holdoff) argument settings.holdoff;
      wait = cond (eqb kind kind_wait) argument settings.wait;
      priority = cond (eqb kind kind_priority) (record { 0 = argument }) settings.priority;
      fixed = cond (eqb kind kind_fixed_quality) (quality argument) settings.fixed;
      floor = cond (eqb kind kind_floor) argument settings.floor;
      kind = cond (eqb kind kind_input_kind) (input_kind_of argument) settings.kind;
      locked = cond (eqb kind kind_lockout) (not (eqb argument 0)) settings.locked;
      sending = cond (eqb kind kind_sending) (not (eqb argument 0)) settings.sending;
    }

-- "In this order: signal failing gives 7; quality mode off gives 0; a fixed quality gives itself; otherwise what was
-- heard"
unfoldable pub quality_now : Heard → Settings → Bool → Quality
quality_now heard settings mode =
    cond (not heard.signal) failed
    (cond (not mode) not_told
    (cond (not (eqb settings.fixed.0 0)) settings.fixed
    (cond (takes_frames settings.kind) heard.frame
    heard.linequality)))

-- raw quality is that of a frame, which expires
unfoldable pub can_expire : Heard → Settings → Bool → Bool
can_expire heard settings mode = heard.signal && mode && eqb settings.fixed.0 0 && takes_frames settings.kind

-- how raw quality goes on if no event comes, and the timers in force
unfoldable pub forecast : Input → Bool → Forecast
forecast input mode =
    record {
      framed = input.heard.framed;
      holdoff = input.settings.holdoff;
      wait = input.settings.wait * minute;
      quality = quality_now input.heard input.settings mode;
      expires = can_expire input.heard input.settings mode;
    }

-- the input with another run
abbrev pub with_run : Input → Run → Input
with_run input run = record { heard = input.heard; run = run; settings = input.settings }

-- an event's own moment taken
unfoldable pub input_at_moment : Input → ℕ → Bool → Bool → Input
input_at_moment input time mode clears = with_run input (at_moment input.run (forecast input mode) time clears)

-- time gone by to a time at which no event has come yet
unfoldable pub input_brought_to : Input → ℕ → Bool → Input
input_brought_to input time mode = with_run input (brought_to input.run (forecast input mode) time)

-- an event on this input taken at its time, with the quality mode in force after it
unfoldable pub after_event : Input → ℕ → ℕ → Quality → ℕ → Bool → Input
after_event input kind argument said time mode =
    input_at_moment
    (record {
      heard = heard_after input.heard kind argument said time;
      run = input.run;
      settings = settings_after input.settings kind argument;
    })
    time
    mode
    (eqb kind kind_clear_wait)

-- what is passed on
abbrev pub passed_of : Input → Quality
passed_of input = passed_quality input.run

-- any event as one input takes it: its own, or a moment like another
unfoldable pub takes : ℕ → Recorded → Bool → Input → Input
takes number event mode input =
    cond (eqb event.input number)
    (after_event input event.kind event.argument event.said event.time mode)
    (input_at_moment input event.time mode false)

-- the record of an input after the recorded events: for each a tick at its time, and then the event itself
unfoldable pub record_after : ℕ → History → Input
record_after number (started profile) = fresh_input
record_after number (event following earlier) =
    takes number event (mode_on (event following earlier))
    (input_brought_to (record_after number earlier) event.time (mode_on earlier))
