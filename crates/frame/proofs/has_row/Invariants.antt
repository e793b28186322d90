-- `frame::has_row` meets its contract. The invariant: what is left decides, where all before it was the same.
-- Assumes nothing.
use Prim.Native.Nat.{◌+◌, ◌*◌}
use mathlib.Core.Path.{◌≡◌}
use Rattle.frame.proofs.Words.{has_rest}
use Rattle.frame.proofs.has_row.Given as goal

abbrev pub invariant-loop-four : goal.invariant-loop-four
invariant-loop-four l =
    has_rest l.row l.wanted (l.place + 4 * l.four) (4 * l.four) ≡ has_rest l.row l.wanted l.place 0
