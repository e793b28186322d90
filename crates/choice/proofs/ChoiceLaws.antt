-- Better, a law for each way to it. Assumes nothing.
use Prim.Native.Nat.{◌≤◌, ◌<◌}
use mathlib.Core.Bool.{true, false}
use mathlib.Core.Path.{◌≡◌}
use native.Mathlib.Omega.{arith}
use lib.Dec.{ltb}
use borrow.Author.Tests.{lt-ltb, le-ltb, eq-eqb, ne_eqb}
use Rattle.choice.specs.declared.Candidate.{Candidate}
use Rattle.choice.specs.Candidate.{is_better}

module _ (candidate other : Candidate) where
  pub is_better_rank : candidate.rank.0 < other.rank.0 → true ≡ is_better candidate other
  unfolding is_better
  is_better_rank h = rw (lt-ltb _ _ h)

  pub is_better-priority : candidate.rank.0 ≡ other.rank.0
      → ltb candidate.priority.0 other.priority.0 ≡ is_better candidate other
  unfolding is_better
  is_better-priority e =
      let h : other.rank.0 ≤ candidate.rank.0 = omega arith in
      rw (le-ltb candidate.rank.0 other.rank.0 h, eq-eqb candidate.rank.0 other.rank.0 e)

  pub is_better_not : other.rank.0 ≤ candidate.rank.0 → (candidate.rank.0 ≡ other.rank.0 → ⊥)
      → false ≡ is_better candidate other
  unfolding is_better
  is_better_not h e =
      rw (le-ltb candidate.rank.0 other.rank.0 h, ne_eqb candidate.rank.0 other.rank.0 e)
