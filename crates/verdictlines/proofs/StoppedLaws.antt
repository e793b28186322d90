-- What is left of whether writing goes on, of one function after another. Assumes nothing.
use Prim.Native.Nat.{ℕ, ◌≤◌}
use mathlib.Core.Path.{◌≡◌, refl, ◌∙◌}
use native.Mathlib.Omega.{arith}
use lib.Dec.{eqb}
use borrow.Author.Tests.{eqb-true, eqb-false}
use Rattle.numbers.proofs.Truth.{by_bool}
use Rattle.verdictlines.specs.Stopped.{going, closed, StaysStopped}

-- nothing was written
pub stays_same : (mark : ℕ) → StaysStopped mark mark
stays_same mark = record { stays = λ n. refl; marked = λ e. omega arith }

-- it had not stopped, and something was written
pub stays-marked : (before after : ℕ) → before ≡ going → after ≤ closed → StaysStopped before after
stays-marked before after e m = record { stays = λ n. absurd (n e); marked = λ g. m }

pub stays_then : (before between after : ℕ) → StaysStopped before between → StaysStopped between after
    → StaysStopped before after
stays_then before between after a b =
    record {
      stays = λ n.
          let same = a.stays n in
          b.stays (λ e. n (omega arith)) ∙ same;
      marked = λ e.
          by_bool (eqb between going) (λ t. b.marked (eqb-true between going t))
          (λ f.
          let same = b.stays (eqb-false between going f) in
          let mark = a.marked e in
          omega arith);
    }

pub ruleset stopped-laws = (stays_same, stays_then)
