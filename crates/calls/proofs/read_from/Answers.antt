-- `calls::read_from` meets its contract: what failed, or can't be counted, delivered nothing.
-- Assumes nothing.
use mathlib.Core.Path.{refl}
use Rattle.calls.proofs.CallsLaws.{delivered_failed}
use Rattle.calls.proofs.read_from.Goals as goal

pub returns-then-read-chunk : goal.returns-then-read-chunk
returns-then-read-chunk g c = delivered_failed _ _ _ refl

pub returns : goal.returns
returns g c = delivered_failed _ _ _ c.loop.invariant.1
