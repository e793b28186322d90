-- `text::put_all` meets its contract: what holds at each turn is `PutSoFar`.
-- Assumes nothing.
use Rattle.text.proofs.PlacedText.{PutSoFar}
use Rattle.text.proofs.put_all.Given as goal

abbrev pub invariant-loop-taken : goal.invariant-loop-taken
invariant-loop-taken l = PutSoFar l.numbers l.place l.initial.out l.taken l.end l.out
