-- `verdictlines::stretch::send` meets its contract: what is left of whether writing goes on.
-- Assumes nothing.
use mathlib.Core.Path.{sym}
use native.Mathlib.Omega.{arith}
use lib.Seq.{length-take-le}
use Rattle.verdictlines.proofs.StoppedLaws.{stays_same, stays-marked}
use Rattle.verdictlines.proofs.stretch.send.Goals as goal

pub returns-then-stopped-ne-GOING : goal.returns-then-stopped-ne-GOING
returns-then-stopped-ne-GOING c = stays_same _

pub returns-then-out-end : goal.returns-then-out-end
returns-then-out-end c = stays-marked _ _ (omega arith) (omega arith)

pub slice_bounds-write_alone-end : goal.slice_bounds-write_alone-end
slice_bounds-write_alone-end c = sym (length-take-le _ _ (omega arith))

pub returns : goal.returns
returns c = stays-marked _ _ (omega arith) c.mark_of.ensures
