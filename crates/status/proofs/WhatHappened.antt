-- What the code says of an input is what has happened, after any sequence of events. Assumes nothing.
use Prim.Native.Nat.{ℕ, ◌<◌}
use mathlib.Core.Bool.{Bool, true, false, cond}
use mathlib.Core.List.{List, [], ◌∷◌}
use mathlib.Core.Path.{◌≡◌, refl, sym, ◌∙◌, ap}
use Rattle.numbers.specs.Recorded.{Recorded}
use Rattle.numbers.specs.From.{started, ◌following◌, profile_of}
use Rattle.numbers.specs.Profile.{limits_of, floor_in}
use Rattle.numbers.specs.Inputs.{input_count, frame_life}
use Rattle.numbers.specs.Kind.{is_frame}
use Rattle.numbers.specs.Quality.{is_failed}
use Rattle.run.specs.declared.Run.{Run}
use Rattle.run.specs.Moments.{holdoff_at, wait_at, fails}
use Rattle.run.specs.Passed.{run_began}
use Rattle.run.proofs.Kept.{defined, kept-defined}
use Rattle.input.specs.declared.Heard.{Heard}
use Rattle.input.specs.Recorded.{History, heard, last_argument, mode_on, time_of, moment_of, moments, Ordered, holdoff_of, wait_of}
use Rattle.input.specs.Record.{fresh_input, forecast, record_after}
use Rattle.input.proofs.Recalled.{heard_by, settings_by, frame_time, frame_said, heard_recalled, settings_recalled, raw_recalled}
use Rattle.input.proofs.Demand2.{forecast_after, run_moments, passed-now}
use Rattle.choice.specs.Candidate.{is_eligible}
use Rattle.selector.proofs.Ports.{get_d_ports}
use Rattle.events.specs.Sequence.{Sequence, state_after}
use Rattle.events.specs.Past.{recorded}
use Rattle.events.proofs.Agrees.{sequence-agrees, candidate-recorded}
use Rattle.events.proofs.DueSame.{Told, AllTold, heard-told}
use Rattle.status.specs.Status.{end_ahead, timer_by, frame_by, status_by}
use Rattle.status.specs.Kept.{timer_ahead, frame_ahead, status_of, input_status}
use Rattle.status.specs.WhatHappened.{StatusRight}

-- ---- the frame

-- no report says failed
frame_same : (frames : List Recorded) (time : ℕ) → AllTold frames
    → cond (is_failed (frame_said frames)) 0 (end_ahead (frame_time frames) frame_life time) ≡ frame_by frames time
unfolding frame_said frame_time
frame_same [] time told = refl
frame_same (report ∷ earlier) time told = rw told.0

frame_right : (number : ℕ) (history : History) (time : ℕ) → Told history
    → frame_ahead (record_after number history).heard time ≡ frame_by (heard number is_frame history) time
unfolding frame_ahead heard_by
frame_right number history time told =
    ap (λ (heard : Heard). cond (is_failed heard.frame) 0 (end_ahead heard.framed frame_life time))
    (heard_recalled number history) ∙
    frame_same (heard number is_frame history) time (heard-told number history told)

-- ---- the timer

-- the settings in force at the last moment
holdoff-now : (number : ℕ) (history : History) → holdoff_at (moments number history) ≡ holdoff_of number history
unfolding moments moment_of last_argument
holdoff-now number (started profile) = refl
holdoff-now number (event following earlier) = refl

wait-now : (number : ℕ) (history : History) → wait_at (moments number history) ≡ wait_of number history
unfolding moments moment_of last_argument
wait-now number (started profile) = refl
wait-now number (event following earlier) = refl

either : (test : Bool) (began holdoff wait time : ℕ)
    → cond test (end_ahead began holdoff time) (end_ahead began wait time) ≡ end_ahead began (cond test holdoff wait) time
either true began holdoff wait time = refl
either false began holdoff wait time = refl

-- the timer of the run that the moments define
timer-defined : (number : ℕ) (history : History) (time : ℕ)
    → timer_ahead (defined (moments number history)) (forecast_after number history) time
    ≡ timer_by (moments number history) time
unfolding timer_ahead defined forecast settings_by
timer-defined number history time =
    rw (settings_recalled number history, ← holdoff-now number history, ← wait-now number history)
    (either (fails (moments number history)) (run_began (moments number history)) (holdoff_at (moments number history))
    (wait_at (moments number history))
    time)

timer-right : (number : ℕ) (history : History) (time : ℕ) → Ordered history
    → timer_ahead (record_after number history).run (forecast_after number history) time
    ≡ timer_by (moments number history) time
timer-right number history time ordered =
    ap (λ (run : Run). timer_ahead run (forecast_after number history) time)
    (run_moments number history ordered ∙ kept-defined (moments number history)) ∙
    timer-defined number history time

-- ---- all that is known

status_recorded : (number : ℕ) (history : History) → Ordered history → Told history
    → status_of (profile_of history) (record_after number history) (mode_on history) (time_of history)
    ≡ status_by history number
unfolding status_of status_by heard_by settings_by
status_recorded number history ordered told = λ j.
    record {
      raw = sym (raw_recalled number history (time_of history)) j;
      passed = passed-now number history ordered j;
      eligible =
          is_eligible
          (candidate-recorded number (time_of history) history (record_after number history)
          (passed-now number history ordered)
          (settings_recalled number history)
          j);
      timer = timer-right number history (time_of history) ordered j;
      frame = frame_right number history (time_of history) told j;
      signal = (heard_recalled number history j).signal;
      kind = (settings_recalled number history j).kind;
      priority = (settings_recalled number history j).priority;
      locked = (settings_recalled number history j).locked;
      floor = floor_in (limits_of (profile_of history)).freerunning (settings_recalled number history j).floor;
    }

-- WHAT IS KNOWN OF AN INPUT: after any sequence of events, it is what has happened.
pub status_right : (sequence : Sequence) → StatusRight sequence
status_right sequence = record { each = one }
  where
    one : (number : ℕ) → number < input_count
        → input_status (state_after sequence) number ≡ status_by (recorded sequence) number
    one number inside =
        let agrees = sequence-agrees sequence in
        rw (
          agrees.profile,
          agrees.inputs,
          agrees.mode,
          agrees.time,
          get_d_ports (λ (other : ℕ). record_after other (recorded sequence)) fresh_input number inside,
        )
        (status_recorded number (recorded sequence) agrees.ordered agrees.told)
