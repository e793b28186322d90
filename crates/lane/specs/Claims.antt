-- What being shown within a tolerance means, whatever is right when and whatever is shown. Assumes nothing.
use Rattle.std.specs.Prelude.{ℕ, ◌+◌, ◌≤◌, ◌↔◌, [], ◌≡◌}
use Rattle.lane.specs.declared.Tolerance.{Tolerance}
use Rattle.lane.specs.Shown.{Tellings, Stands, Rightness, Good, Wrong, ShownWithin}

-- what stands is right, and late by at most LATE
abbrev pub LateAtMost : Tolerance → Rightness → Tellings → Type 0
LateAtMost tolerance Right told =
    (time value : ℕ) → time ≤ tolerance.end → Stands told time value
    → (moment : ℕ) × (moment ≤ time) × (time ≤ moment + tolerance.late) × Right moment value

-- a value alone is right from a millisecond on for longer than LATE and EARLY together
abbrev pub AloneRight : Tolerance → Rightness → ℕ → ℕ → Type 0
AloneRight tolerance Right from value =
    (moment other : ℕ) → from ≤ moment → moment ≤ from + tolerance.late + tolerance.early → Right moment other
    → other ≡ value

pub record Claims (tolerance : Tolerance) (Right : Rightness) (told : Tellings) : Type 0 where
  -- a card that is right but late by no more than LATE passes
  pub late : LateAtMost tolerance Right told → ShownWithin tolerance Right told
  -- a value that is right for longer than both together must have been shown, where anything was
  pub long : (from value shown : ℕ) → AloneRight tolerance Right from value
      → from + tolerance.late ≤ tolerance.end
      → Stands told (from + tolerance.late) shown
      → ShownWithin tolerance Right told
      → Stands told (from + tolerance.late) value
  -- both 0 is equality
  pub equal : tolerance.late ≡ 0 → tolerance.early ≡ 0 → (time value : ℕ)
      → Good tolerance Right time value ↔ Right time value
  -- where nothing is shown nothing is wrong, so that `Exact` has it as no verdict
  pub nothing : told ≡ [] → (time : ℕ) → Wrong tolerance Right told time → ⊥
