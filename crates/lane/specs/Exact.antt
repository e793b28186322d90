-- What the code answers of a lane is what is shown within the tolerance, by each millisecond: no wrong lane passes and
-- no right one is accused. Assumes nothing.
use Rattle.std.specs.Prelude.{ℕ, ◌+◌, ◌-◌, ◌≤◌, ◌<◌, List, [], ◌∷◌, ◌⊎◌, ◌↔◌, ◌≡◌}
use Rattle.lane.specs.declared.Tolerance.{Tolerance}
use Rattle.lane.specs.declared.Stretch.{Stretch}
use Rattle.lane.specs.Shown.{Tellings, Stands, Good, Wrong}
use Rattle.lane.specs.Lane.{wrong_count}
use Rattle.lane.specs.History.{Happenings, RightIn, tellings, lane_after, stretches_after}

-- a millisecond is in a stretch
abbrev pub In : Stretch → ℕ → Type 0
In stretch time = (stretch.from ≤ time) × (time < stretch.until)

-- in one of some stretches
abbrev pub InAny : List Stretch → ℕ → Type 0
InAny [] time = ⊥
InAny (stretch ∷ rest) time = In stretch time ⊎ InAny rest time

-- stretches are all over before a millisecond: between them and it is another
abbrev pub OverBefore : List Stretch → ℕ → Type 0
OverBefore [] time = Unit {0}
OverBefore (stretch ∷ rest) time = (stretch.from < stretch.until → stretch.until < time) × OverBefore rest time

-- stretches, the latest first, each as long as it can be: no two touch
abbrev pub Apart : List Stretch → Type 0
Apart [] = Unit {0}
Apart (stretch ∷ rest) = (stretch.from < stretch.until → OverBefore rest stretch.from) × Apart rest

-- how many milliseconds are in some stretches
abbrev pub lengths : List Stretch → ℕ
lengths [] = 0
lengths (stretch ∷ rest) = (stretch.until - stretch.from) + lengths rest

-- the first thing that was shown
abbrev pub FirstAt : Tellings → ℕ → Type 0
FirstAt [] time = ⊥
FirstAt (telling ∷ []) time = telling.time ≡ time
FirstAt (telling ∷ other ∷ earlier) time = FirstAt (other ∷ earlier) time

-- a value stands at a millisecond and is not good
abbrev pub WrongShown : Tolerance → Happenings → ℕ → ℕ → Type 0
WrongShown tolerance happenings time value =
    Stands (tellings happenings) time value × (Good tolerance (RightIn happenings) time value → ⊥)

-- each stretch has something of its first millisecond
abbrev pub Valued : (ℕ → ℕ → Type 0) → List Stretch → Type 0
Valued Has [] = Unit {0}
Valued Has (stretch ∷ rest) = (stretch.from < stretch.until → Has stretch.from stretch.value) × Valued Has rest

-- once it is known what is right to beyond EARLY behind the end
pub record Exact (tolerance : Tolerance) (happenings : Happenings) : Type 0 where
  -- the wrong milliseconds up to the end are exactly those of the stretches
  pub wrong : (time : ℕ)
      → ((time ≤ tolerance.end) × Wrong tolerance (RightIn happenings) (tellings happenings) time)
      ↔ InAny (stretches_after tolerance happenings) time
  -- of which none could be longer
  pub apart : Apart (stretches_after tolerance happenings)
  -- and which are counted
  pub wrongms : wrong_count (lane_after tolerance happenings) ≡ lengths (stretches_after tolerance happenings)
  -- what a stretch tells stood in its first millisecond and was not good
  pub value : Valued (WrongShown tolerance happenings) (stretches_after tolerance happenings)
  -- nothing shown is no verdict
  pub silent : ((lane_after tolerance happenings).after ≡ 0) ↔ (tellings happenings ≡ [])
  -- otherwise it is judged from the first thing shown
  pub first : ((lane_after tolerance happenings).after ≡ 0 → ⊥)
      → FirstAt (tellings happenings) (lane_after tolerance happenings).first
