-- Any sequence of things that a lane is told: what is right and what is shown by it, the lane that the code keeps after
-- it, and the stretches that it answered. Assumes nothing.
use Rattle.std.specs.Prelude.{ℕ, suc, ◌+◌, ◌-◌, ◌≤◌, cond, List, [], ◌∷◌, ◌⊎◌, ◌≡◌, eqb}
use Rattle.lane.specs.declared.Tolerance.{Tolerance}
use Rattle.lane.specs.declared.Stretch.{Stretch}
use Rattle.lane.specs.declared.Lane.{Lane}
use Rattle.lane.specs.declared.Judged.{Judged}
use Rattle.lane.specs.Shown.{Tellings, Rightness}
use Rattle.lane.specs.Lane.{fresh_lane, shown_next, right_next}

-- a lane is told that a value is right from one millisecond to another, both included, or that a value is shown at one
pub data Happening : Type 0 where
  is_right : (from to value : ℕ) → Happening
  is_shown : (time value : ℕ) → Happening

-- what a lane was told, the latest first
abbrev pub Happenings : Type 0
Happenings = List Happening

-- which value is right when
abbrev pub RightIn : Happenings → Rightness
RightIn [] moment value = ⊥
RightIn (is_right from to right ∷ earlier) moment value =
    ((from ≤ moment) × (moment ≤ to) × (right ≡ value)) ⊎ RightIn earlier moment value
RightIn (is_shown time shown ∷ earlier) moment value = RightIn earlier moment value

-- what is shown
abbrev pub tellings : Happenings → Tellings
tellings [] = []
tellings (is_right from to value ∷ earlier) = tellings earlier
tellings (is_shown time value ∷ earlier) = record { time = time; value = value } ∷ tellings earlier

-- the millisecond behind the last at which a value was right; 0 where it never was
unfoldable pub last_right : Happenings → ℕ → ℕ
last_right [] value = 0
last_right (is_right from to right ∷ earlier) value = cond (eqb right value) (suc to) (last_right earlier value)
last_right (is_shown time shown ∷ earlier) value = last_right earlier value

-- a lane after one thing more
abbrev pub judged_next : Tolerance → Lane → Happenings → Happening → Judged
judged_next tolerance lane earlier (is_right from to value) =
    right_next tolerance lane (last_right earlier lane.value) from to value
judged_next tolerance lane earlier (is_shown time value) =
    shown_next tolerance lane (last_right earlier value) time value

-- the lane after it
unfoldable pub lane_after : Tolerance → Happenings → Lane
lane_after tolerance [] = fresh_lane
lane_after tolerance (happening ∷ earlier) =
    (judged_next tolerance (lane_after tolerance earlier) earlier happening).lane

-- the stretches that were over, the latest first, with none among them where nothing was over
unfoldable pub ended_after : Tolerance → Happenings → List Stretch
ended_after tolerance [] = []
ended_after tolerance (happening ∷ earlier) =
    (judged_next tolerance (lane_after tolerance earlier) earlier happening).ended ∷ ended_after tolerance earlier

-- all stretches, the latest first
abbrev pub stretches_after : Tolerance → Happenings → List Stretch
stretches_after tolerance happenings = (lane_after tolerance happenings).stretch ∷ ended_after tolerance happenings

-- up to which millisecond it is known what is right
abbrev pub reached_by : Happenings → ℕ
reached_by [] = 0
reached_by (is_right from to value ∷ earlier) = to
reached_by (is_shown time value ∷ earlier) = reached_by earlier

-- the millisecond behind the last thing shown; 0 where nothing was
abbrev pub after_by : Happenings → ℕ
after_by [] = 0
after_by (is_right from to value ∷ earlier) = after_by earlier
after_by (is_shown time value ∷ earlier) = suc time

-- no time is later
abbrev pub farthest : ℕ
farthest = 4611686018427387904

-- told in order: a value is right from no earlier than where it was known before what is right, and from later than
-- EARLY behind the last thing shown; a value is shown where it is known what is right up to EARLY behind its time
abbrev pub Orderly : Tolerance → Happenings → Type 0
Orderly tolerance [] = Unit {0}
Orderly tolerance (is_right from to value ∷ earlier) =
    (reached_by earlier ≤ from) × (from ≤ to) × (to ≤ farthest) × (after_by earlier ≤ from - tolerance.early) ×
    Orderly tolerance earlier
Orderly tolerance (is_shown time value ∷ earlier) =
    (reached_by earlier ≡ time + tolerance.early) × Orderly tolerance earlier

-- no number of a tolerance is later
pub record Near (tolerance : Tolerance) : Type 0 where
  pub late : tolerance.late ≤ farthest
  pub early : tolerance.early ≤ farthest
  pub end : tolerance.end ≤ farthest
