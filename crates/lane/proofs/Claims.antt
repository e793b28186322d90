-- What being shown within a tolerance means: `specs/Claims`. Assumes nothing.
use Prim.Native.Nat.{ℕ, ◌+◌}
use mathlib.Core.List.{[]}
use mathlib.Core.Logic.{⊎_elim}
use mathlib.Core.Path.{◌≡◌, subst}
use native.Mathlib.Omega.{arith}
use Rattle.lane.specs.declared.Tolerance.{Tolerance}
use Rattle.lane.specs.Shown.{Tellings, Stands, Rightness}
use Rattle.lane.specs.Claims.{Claims}
use Rattle.lane.proofs.Exact.{by_same}

stands-nothing : (time value : ℕ) → Stands [] time value → ⊥
stands-nothing time value s = ⊎_elim (λ t. t) (λ t. t.1) s

-- THE TOLERANCE MEANS WHAT IT SHOULD.
pub claims : (tolerance : Tolerance) (Right : Rightness) (told : Tellings) → Claims tolerance Right told
claims tolerance Right told =
    record {
      late = λ l time e w.
          let m = l time w.0 e w.1 in
          let soon = m.1 in
          w.2 (m.0, m.2, omega arith, m.3);
      long = λ from value shown alone end stands within.
          by_same shown value
          (λ e. subst (λ v. Stands told (from + tolerance.late) v) e stands)
          (λ n. absurd
          (within (from + tolerance.late) end (
            shown,
            stands,
            λ g. let a = g.1 in let b = g.2 in n (alone g.0 shown (omega arith) (omega arith) g.3),
          )));
      equal = λ late early time value. (
        λ g. let a = g.1 in
            let b = g.2 in
            let same : g.0 ≡ time = omega arith in
            subst (λ m. Right m value) same g.3,
        λ r. (time, omega arith, omega arith, r),
      );
      nothing = λ e time w. stands-nothing time w.0 (subst (λ t. Stands t time w.0) e w.1);
    }
