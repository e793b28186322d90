-- `frame::has_row` meets its contract. The invariant: what is left decides, where all before it was the same.
-- Assumes nothing.
use Prim.Native.Nat.{ℕ, ◌+◌, ◌*◌, ◌/◌, ◌≤◌}
use mathlib.Core.Bool.{◌&&◌}
use mathlib.Core.List.{List}
use mathlib.Core.Path.{◌≡◌, refl, sym, ◌∙◌}
use native.Mathlib.Omega.{arith}
use borrow.Author.Tests.{eq-eqb, ne_eqb, le-leb}
use lib.Dec.{eqb, leb}
use lib.ListN.{length, take, drop}
use Rattle.frame.specs.Octets.{same}
use Rattle.frame.proofs.Words.{Octets, low_first_at, has_rest, has_rest-all, has_rest_several}
use Rattle.frame.proofs.has_row.Goals as goal

-- ---- a row that is long enough
inside : (row wanted : List ℕ) (place : ℕ) → place + length wanted ≤ length row
    → (leb (place + length wanted) (length row) && same (take (length wanted) (drop place row)) wanted)
    ≡ has_rest row wanted place 0
inside row wanted place long =
    rw (le-leb (place + length wanted) (length row) long)
    (sym (has_rest-all row wanted place))

four-next : (row wanted : List ℕ) (octets : Octets row) (sought : Octets wanted) (place passed next : ℕ)
    → passed + 4 ≤ length wanted
    → place + length wanted ≤ length row
    → next ≡ passed + 4
    → has_rest row wanted (place + passed) passed
    ≡ (eqb (low_first_at 4 row (place + passed)) (low_first_at 4 wanted passed)
    && has_rest row wanted (place + next) next)
four-next row wanted octets sought place passed next enough fits four =
    let further : place + next ≡ place + passed + 4 = omega arith in
    has_rest_several row wanted octets sought (place + passed) passed 4 enough (omega arith)
    ∙ rw (further, four)

-- ---- the needs
pub returns-then-four_octets : goal.returns-then-four_octets
returns-then-four_octets c =
    let args = c.args in
    let passed = 4 * c.loop-four.four in
    sym
    (inside args.row.now args.wanted.now args.place (omega arith)
    ∙ sym c.loop-four.invariant
    ∙ four-next args.row.now args.wanted.now c.type_inv.row c.type_inv.wanted
    args.place passed (passed + 4) (omega arith) (omega arith) refl
    ∙ rw (
      ← c.four_octets.ensures,
      ← c.four_octets-in-loop-four.ensures,
      ne_eqb _ _ c.if-four_octets.true,
    ))

pub loop-four-preserved : goal.loop-four-preserved
loop-four-preserved c =
    let args = c.args in
    sym
    (four-next args.row.now args.wanted.now c.type_inv.row c.type_inv.wanted
    args.place (4 * c.loop-four.four) (4 * (c.loop-four.four + 1)) (omega arith) (omega arith) (omega arith)
    ∙ rw (
      ← c.four_octets.ensures,
      ← c.four_octets-in-loop-four.ensures,
      eq-eqb _ _ c.if-four_octets.false,
    ))
    ∙ c.loop-four.invariant

pub returns : goal.returns
returns c =
    let args = c.args in
    let all : c.loop-four.four ≡ length args.wanted.now / 4 = omega arith in
    c.has_rest.ensures ∙ rw (← all) c.loop-four.invariant
    ∙ sym (inside args.row.now args.wanted.now args.place (omega arith))
