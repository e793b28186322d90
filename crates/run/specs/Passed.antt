-- Document 01, "Passed quality", computed over the moments of one input. `proofs/Exact` shows that it is what `Moments`
-- states. Assumes nothing.
use Rattle.std.specs.Prelude.{ℕ, ◌+◌, Bool, true, false, not, ◌&&◌, ◌||◌, cond, [], ◌∷◌, leb}
use Rattle.numbers.specs.declared.quality.Quality.{Quality}
use Rattle.numbers.specs.Quality.{failed, is_failed}
use Rattle.numbers.specs.Truth.{alike}
use Rattle.run.specs.Moments.{Moments, raw_quality, fails}

-- when the present run began
abbrev pub run_began : Moments → ℕ
run_began [] = 0
run_began (moment ∷ earlier) = cond (alike (is_failed moment.raw) (fails earlier)) (run_began earlier) moment.time

-- the last raw quality that was not failed: in a failed run, the last one before it
abbrev pub good_quality : Moments → Quality
good_quality [] = failed
good_quality (moment ∷ earlier) = cond (is_failed moment.raw) (good_quality earlier) moment.raw

-- the present moment is down
abbrev pub is_down : Moments → Bool
is_down [] = true
is_down (moment ∷ earlier) =
    is_failed moment.raw && leb (run_began (moment ∷ earlier) + moment.holdoff) moment.time

-- the present moment is up
abbrev pub is_up : Moments → Bool
is_up [] = false
is_up (moment ∷ earlier) =
    not (is_failed moment.raw) && (leb (run_began (moment ∷ earlier) + moment.wait) moment.time || moment.clears)

-- the last down or up moment was up
abbrev pub was_up : Moments → Bool
was_up [] = false
was_up (moment ∷ earlier) = cond (is_down (moment ∷ earlier)) false (cond (is_up (moment ∷ earlier)) true (was_up earlier))

-- the passed quality
abbrev pub passed : Moments → Quality
passed moments = cond (was_up moments) (cond (fails moments) (good_quality moments) (raw_quality moments)) failed
