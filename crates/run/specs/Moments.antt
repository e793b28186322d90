-- Document 01, "Passed quality", sentence by sentence, as statements about the moments of one input. Nothing here keeps
-- a timer. Assumes nothing.
use Rattle.std.specs.Prelude.{ℕ, zero, suc, ◌+◌, ◌*◌, ◌≤◌, ◌<◌, Bool, true, false, not, List, [], ◌∷◌, ◌≡◌, ◌⊎◌}
use Rattle.numbers.specs.declared.quality.Quality.{Quality}
use Rattle.numbers.specs.Quality.{failed, is_failed}
use Rattle.numbers.specs.Inputs.{minute, fresh_holdoff, fresh_wait}

-- what one input shows at one moment: the clock, its raw quality, the settings in force (in ms), and whether "the event
-- of that very moment is a clear-wait on it"
pub record Moment : Type 0 where
  pub time : ℕ
  pub raw : Quality
  pub holdoff : ℕ
  pub wait : ℕ
  pub clears : Bool

-- the moments up to the present one, the latest first; with none taken, the present one is "Time 0, fresh"
abbrev pub Moments : Type 0
Moments = List Moment

-- the moments up to the one that was `count` moments ago; before the fresh moment there is nothing but it
unfoldable pub ago : ℕ → Moments → Moments
ago zero moments = moments
ago (suc count) [] = []
ago (suc count) (moment ∷ earlier) = ago count earlier

-- the present moment is "Time 0, fresh"
abbrev pub is_fresh : Moments → Bool
is_fresh [] = true
is_fresh (moment ∷ earlier) = false

-- the clock at the present moment
abbrev pub time_at : Moments → ℕ
time_at [] = 0
time_at (moment ∷ earlier) = moment.time

-- the raw quality at the present moment; a fresh input's signal is failing
abbrev pub raw_quality : Moments → Quality
raw_quality [] = failed
raw_quality (moment ∷ earlier) = moment.raw

-- "Settings are those in force at the moment": the hold-off
abbrev pub holdoff_at : Moments → ℕ
holdoff_at [] = fresh_holdoff
holdoff_at (moment ∷ earlier) = moment.holdoff

-- "Settings are those in force at the moment": the wait
abbrev pub wait_at : Moments → ℕ
wait_at [] = fresh_wait * minute
wait_at (moment ∷ earlier) = moment.wait

-- "the event of that very moment is a clear-wait on it"
abbrev pub clears_at : Moments → Bool
clears_at [] = false
clears_at (moment ∷ earlier) = moment.clears

-- raw quality is failed (7) at the present moment
abbrev pub fails : Moments → Bool
fails moments = is_failed (raw_quality moments)

-- "A run is the unbroken stretch for which raw quality has been failed (7), or has been not failed": the present run
-- began `count` moments ago, since all moments from there on are alike and the one before, if there is one, is not
pub record Began (moments : Moments) (count : ℕ) : Type 0 where
  pub unbroken : (back : ℕ) → back ≤ count → fails (ago back moments) ≡ fails moments
  pub first : (is_fresh (ago count moments) ≡ true) ⊎ (fails (ago (suc count) moments) ≡ not (fails moments))

-- the present run began at least `length` ms ago
abbrev pub BeganAtLeast : ℕ → Moments → Type 0
BeganAtLeast length moments =
    (count : ℕ) × (Began moments count × (time_at (ago count moments) + length ≤ time_at moments))

-- "A moment is down if the present run is failed and began at least the hold-off ago"; "Time 0, fresh, is down"
abbrev pub Down : Moments → Type 0
Down moments = (is_fresh moments ≡ true) ⊎ ((fails moments ≡ true) × BeganAtLeast (holdoff_at moments) moments)

-- "up if the present run is not failed and either began at least the wait ago or the event of that very moment is a
-- clear-wait"
abbrev pub Up : Moments → Type 0
Up moments = (fails moments ≡ false) × (BeganAtLeast (wait_at moments) moments ⊎ (clears_at moments ≡ true))

-- none of the last `count` moments is down or up
abbrev pub Neither : Moments → ℕ → Type 0
Neither moments count = (back : ℕ) → back < count → (Down (ago back moments) → ⊥) × (Up (ago back moments) → ⊥)

-- "the last down or up moment was down"
abbrev pub LastDown : Moments → Type 0
LastDown moments = (count : ℕ) × (Down (ago count moments) × Neither moments count)

-- the last down or up moment was up
abbrev pub LastUp : Moments → Type 0
LastUp moments = (count : ℕ) × (Up (ago count moments) × Neither moments count)

-- "the last raw quality before that run"
abbrev pub BeforeRun : Moments → Quality → Type 0
BeforeRun moments quality =
    (count : ℕ) × (Began moments count ×
    (is_fresh (ago count moments) ≡ false) ×
    (quality ≡ raw_quality (ago (suc count) moments)))

-- "If the last down or up moment was down, the passed quality is 7. Otherwise it is the raw quality, or, in a failed
-- run, the last raw quality before that run."
abbrev pub Passed : Moments → Quality → Type 0
Passed moments quality =
    (LastDown moments × (quality ≡ failed)) ⊎
    (LastUp moments ×
    (((fails moments ≡ false) × (quality ≡ raw_quality moments)) ⊎ ((fails moments ≡ true) × BeforeRun moments quality)))

-- "Moments between two events count as well": each of the `count` milliseconds after `time`, one by one
unfoldable pub each_millisecond : (ℕ → Moment) → ℕ → ℕ → Moments → Moments
each_millisecond shown time zero earlier = earlier
each_millisecond shown time (suc count) earlier = shown (suc (time + count)) ∷ each_millisecond shown time count earlier
