-- `digits::decimal::decimal` meets its contract: what holds at each turn is `SoFar`; the measure is how many places are
-- left. Assumes nothing.
use native.Mathlib.Omega.{arith}
use Rattle.digits.proofs.Decimals.{so_far_start, so_far_next, so_far_end}
use Rattle.digits.proofs.decimal.decimal.Goals as goal

pub loop-rest-init : goal.loop-rest-init
loop-rest-init c = so_far_start _ (omega arith)

pub loop-rest-preserved : goal.loop-rest-preserved
loop-rest-preserved c =
    let l = c in
    so_far_next _ _ _ _ l.loop-rest.invariant _ (omega (arith, c.loop-rest-test.true)) c.numeral.ensures

pub returns : goal.returns
returns c =
    let l = c in
    so_far_end _ _ _ _ l.loop-rest.invariant _ (omega (arith, c.loop-rest-test.false)) c.numeral-2.ensures
