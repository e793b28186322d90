-- `frame::put_octets` meets its contract: the buffer holds what has been put of the row. Assumes nothing.
use mathlib.Core.Path.{◌≡◌}
use lib.Seq.{paste}
use Rattle.frame.proofs.put_octets.Given as goal

abbrev pub invariant-loop-put : goal.invariant-loop-put
invariant-loop-put l = l.buffer ≡ paste l.initial.buffer l.start l.row l.put
