-- `text::put_all` meets its contract: what holds at each turn is `PutSoFar`.
-- Assumes nothing.
use native.Mathlib.Omega.{arith}
use Rattle.text.proofs.PlacedText.{put_start, put_next, put-end}
use Rattle.text.proofs.put_all.Goals as goal

pub loop-taken-init : goal.loop-taken-init
loop-taken-init c = put_start _ _ _

pub loop-taken-preserved : goal.loop-taken-preserved
loop-taken-preserved c =
    put_next c.loop-taken.invariant c.requires _ _ c.loop-taken-test.true
    (omega (arith, c.type_inv.numbers c.loop-taken.taken)) c.put_next-end.ensures c.put_next-end.auto.out

pub returns : goal.returns
returns c = put-end c.loop-taken.invariant c.requires c.loop-taken-test.false
