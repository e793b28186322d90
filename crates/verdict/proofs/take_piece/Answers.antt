-- `verdict::take_piece` meets its contract: it ends, and no sum wraps.
-- Assumes nothing.
use mathlib.Core.Path.{sym}
use native.Mathlib.Omega.{arith}
use lib.Seq.{length-take-le}
use Rattle.verdict.proofs.take_piece.Goals as goal

pub slice_bounds-take_lines-end-2 : goal.slice_bounds-take_lines-end-2
slice_bounds-take_lines-end-2 c = sym (length-take-le _ _ (omega arith))
