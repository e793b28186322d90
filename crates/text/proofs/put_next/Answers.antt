-- `text::put_next` meets its contract: with a space, and without.
-- Assumes nothing.
use mathlib.Core.Path.{◌∙◌}
use native.Mathlib.Omega.{arith}
use lib.ListN.{length-set}
use Rattle.text.proofs.PlacedText.{decimal_of-short, written-spaced, written-first}
use Rattle.text.proofs.put_next.Goals as goal

pub put_decimal-requires : goal.put_decimal-requires
put_decimal-requires c =
    let start = c in
    simp length-set
    (omega (arith, start.requires, decimal_of-short start.args.number (omega (arith, start.ranges.number))))

pub shape_of-out-then-behind : goal.shape_of-out-then-behind
shape_of-out-then-behind c = c.put_decimal.auto.out ∙ simp length-set

pub returns-then-behind : goal.returns-then-behind
returns-then-behind c =
    let start = c in
    rw c.if-behind.true
    (written-spaced _ _ _ _ _ (omega (arith, start.requires)) c.put_decimal.ensures)

pub put_decimal-requires-2 : goal.put_decimal-requires-2
put_decimal-requires-2 c =
    let start = c in
    omega (arith, start.requires, decimal_of-short start.args.number (omega (arith, start.ranges.number)))

pub returns : goal.returns
returns c =
    rw c.if-behind.false
    (written-first _ _ _ _ _ c.put_decimal-2.ensures)
