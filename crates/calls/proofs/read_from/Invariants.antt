-- `calls::read_from` meets its contract: the length stays, and nothing is counted before something is read.
-- Assumes nothing.
use Prim.Native.Nat.{◌+◌, ◌^◌, ◌<◌}
use mathlib.Core.Path.{◌≡◌}
use lib.ListN.{length}
use Rattle.calls.proofs.read_from.Given as goal

abbrev pub invariant-loop : goal.invariant-loop
invariant-loop g l = (length l.chunk ≡ length l.initial.chunk) × (l.read ≡ l.initial.read) × (l.read + length l.chunk < 2 ^ 64)
