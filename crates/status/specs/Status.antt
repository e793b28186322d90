-- What is known of an input after the recorded events: its raw and its passed quality, whether it is eligible, when the
-- timer of its present run and its frame end, and settings. No timer and no state. Assumes nothing.
use Rattle.std.specs.Prelude.{ℕ, cond, List, [], ◌∷◌, ltb}
use Rattle.numbers.specs.Recorded.{Recorded}
use Rattle.numbers.specs.Inputs.{frame_life}
use Rattle.numbers.specs.Kind.{is_frame}
use Rattle.run.specs.Moments.{Moments, holdoff_at, wait_at, fails}
use Rattle.run.specs.Passed.{run_began}
use Rattle.input.specs.Recorded.{History, signal_good, input_kind, priority_of, is_locked_out, floor_of, heard, moments, time_of, raw_quality_at, passed_at}
use Rattle.choice.specs.Candidate.{is_eligible}
use Rattle.due.specs.Next.{sum_or_never}
use Rattle.events.specs.Past.{candidate_by}
use Rattle.status.specs.declared.Status.{Status}

-- a time of so many ms from a start is over, if that is still to come; 0 if not. A sum past the largest number of 64
-- bits stands for never, as in `due/specs/Next`
unfoldable pub end_ahead : ℕ → ℕ → ℕ → ℕ
end_ahead began length time = cond (ltb time (sum_or_never began length)) (sum_or_never began length) 0

-- "a timer ends at run start plus setting, needed or not": the hold-off of a failed run, the wait of any other
abbrev pub timer_by : Moments → ℕ → ℕ
timer_by moments time = end_ahead (run_began moments) (cond (fails moments) (holdoff_at moments) (wait_at moments)) time

-- "a frame expires whatever the mode or fixed quality": 5,000 ms after the last frame heard came; 0 where none was
abbrev pub frame_by : List Recorded → ℕ → ℕ
frame_by [] time = 0
frame_by (report ∷ earlier) time = end_ahead report.time frame_life time

-- an input after the recorded events, at the time of the last of them, in the profile of their start
unfoldable pub status_by : History → ℕ → Status
status_by history number =
    record {
      raw = raw_quality_at number history (time_of history);
      passed = passed_at number history (time_of history);
      eligible = is_eligible (candidate_by history (time_of history) number);
      timer = timer_by (moments number history) (time_of history);
      frame = frame_by (heard number is_frame history) (time_of history);
      signal = signal_good number history;
      kind = input_kind number history;
      priority = record { 0 = priority_of number history };
      locked = is_locked_out number history;
      floor = floor_of number history;
    }
