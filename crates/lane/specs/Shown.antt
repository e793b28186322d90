-- What is shown within a tolerance, by each millisecond: what stands, what is good and what is wrong, for any values
-- and whatever is right when. Assumes nothing.
use Rattle.std.specs.Prelude.{ℕ, ◌+◌, ◌≤◌, ◌<◌, List, [], ◌∷◌, ◌⊎◌, ◌≡◌}
use Rattle.lane.specs.declared.Tolerance.{Tolerance}

-- a value shown at a time
pub record Telling : Type 0 where
  pub time : ℕ
  pub value : ℕ

-- what is shown in a lane, the latest first
abbrev pub Tellings : Type 0
Tellings = List Telling

-- a value is told at a millisecond
abbrev pub ToldAt : Tellings → ℕ → ℕ → Type 0
ToldAt [] time value = ⊥
ToldAt (telling ∷ earlier) time value =
    ((telling.time ≡ time) × (telling.value ≡ value)) ⊎ ToldAt earlier time value

-- a value is the one told last before a millisecond
abbrev pub ToldLast : Tellings → ℕ → ℕ → Type 0
ToldLast [] time value = ⊥
ToldLast (telling ∷ earlier) time value =
    ((telling.time < time) × (telling.value ≡ value)) ⊎ ((time ≤ telling.time) × ToldLast earlier time value)

-- nothing is told at a millisecond
abbrev pub NothingTold : Tellings → ℕ → Type 0
NothingTold told time = (value : ℕ) → ToldAt told time value → ⊥

-- what stands at a millisecond: the values told then; where none is, the one told last before
abbrev pub Stands : Tellings → ℕ → ℕ → Type 0
Stands told time value = ToldAt told time value ⊎ (NothingTold told time × ToldLast told time value)

-- which value is right at which millisecond
abbrev pub Rightness : Type 1
Rightness = ℕ → ℕ → Type 0

-- a value is good at a millisecond: right at some millisecond at most LATE before it or EARLY after it
abbrev pub Good : Tolerance → Rightness → ℕ → ℕ → Type 0
Good tolerance Right time value =
    (moment : ℕ) × (time ≤ moment + tolerance.late) × (moment ≤ time + tolerance.early) × Right moment value

-- a millisecond is wrong: some value stands that is not good
abbrev pub Wrong : Tolerance → Rightness → Tellings → ℕ → Type 0
Wrong tolerance Right told time =
    (value : ℕ) × Stands told time value × (Good tolerance Right time value → ⊥)

-- shown within a tolerance: no millisecond up to the end is wrong
abbrev pub ShownWithin : Tolerance → Rightness → Tellings → Type 0
ShownWithin tolerance Right told = (time : ℕ) → time ≤ tolerance.end → Wrong tolerance Right told time → ⊥
