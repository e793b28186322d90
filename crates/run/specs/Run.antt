-- What the code keeps of the moments gone by, and how time and events change it. Cited by `src/lib.rt`; `proofs/Exact`
-- and `proofs/Kept` show that it passes what `Moments` states. Assumes nothing.
use Rattle.std.specs.Prelude.{ℕ, ◌+◌, Bool, true, false, ◌&&◌, ◌||◌, cond, leb, ltb}
use Rattle.numbers.specs.declared.quality.Quality.{Quality}
use Rattle.numbers.specs.Quality.{failed, is_failed}
use Rattle.numbers.specs.Inputs.{frame_life}
use Rattle.run.specs.declared.Forecast.{Forecast}
use Rattle.run.specs.declared.Run.{Run}
use Rattle.run.specs.Moments.{Moment}

-- a run by its parts
abbrev pub run_of : ℕ → Quality → Bool → Bool → Run
run_of began good isFailing up = record { began = began; good = good; failed = isFailing; up = up }

-- "Time 0, fresh, is down"
abbrev pub fresh_run : Run
fresh_run = run_of 0 failed true false

-- the frame has expired
unfoldable pub is_expired : Forecast → ℕ → Bool
is_expired forecast time = forecast.expires && leb (forecast.framed + frame_life) time

-- raw quality at a time, as forecast
unfoldable pub raw_at : Forecast → ℕ → Quality
raw_at forecast time = cond (is_expired forecast time) failed forecast.quality

-- the moment at a time, as forecast; `clears` where its event is a clear-wait on the input
abbrev pub moment_at : Forecast → Bool → ℕ → Moment
moment_at forecast clears time =
    record {
      time = time;
      raw = raw_at forecast time;
      holdoff = forecast.holdoff;
      wait = forecast.wait;
      clears = clears;
    }

-- the run goes on, or another begins at this moment
unfoldable pub began_after : Bool → ℕ → Bool → ℕ → ℕ
began_after was began isFailing time = cond was (cond isFailing began time) (cond isFailing time began)

-- whether the last down or up moment is up, after the moment at a time
unfoldable pub is_up_after : Bool → Bool → ℕ → Forecast → ℕ → Bool → Bool
is_up_after up isFailing began forecast time clears =
    cond isFailing
    (cond (leb (began + forecast.holdoff) time) false up)
    (cond (clears || leb (began + forecast.wait) time) true up)

-- the last raw quality that was not failed
unfoldable pub last_good : Quality → Quality → Quality
last_good good raw = cond (is_failed raw) good raw

-- the run after one moment more
unfoldable pub at_moment : Run → Forecast → ℕ → Bool → Run
at_moment run forecast time clears =
    let raw = raw_at forecast time in
    let began = began_after run.failed run.began (is_failed raw) time in
    run_of began (last_good run.good raw) (is_failed raw)
    (is_up_after run.up (is_failed raw) began forecast time clears)

-- whether the last down or up moment before `end` was up, in a run that is not failed and ends there
unfoldable pub up_before : Bool → ℕ → ℕ → ℕ → Bool
up_before up began wait end = cond (ltb (began + wait) end) true up

-- the run after all milliseconds up to a time, in which no event comes
unfoldable pub brought_to : Run → Forecast → ℕ → Run
brought_to run forecast time =
    let end = forecast.framed + frame_life in
    let before = up_before run.up run.began forecast.wait end in
    cond run.failed
    (run_of run.began run.good true (is_up_after run.up true run.began forecast time false))
    (cond (is_expired forecast time)
    (run_of end run.good true (is_up_after before true end forecast time false))
    (run_of run.began run.good false (is_up_after run.up false run.began forecast time false)))

-- what is passed on
unfoldable pub passed_quality : Run → Quality
passed_quality run = cond run.up run.good failed
