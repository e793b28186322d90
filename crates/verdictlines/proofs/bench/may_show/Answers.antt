-- `verdictlines::bench::may_show` meets its contract.
-- Assumes nothing.
use borrow.Author.Tests.{le-leb, lt-leb}
use Rattle.verdictlines.specs.Bench.{may_show}
use Rattle.verdictlines.proofs.bench.may_show.Goals as goal

pub returns-then-lane-time : goal.returns-then-lane-time
unfolding may_show
returns-then-lane-time c = rw (le-leb _ _ c.if-lane-time.true)

pub returns-else-lane-time : goal.returns-else-lane-time
unfolding may_show
returns-else-lane-time c = rw (lt-leb _ _ c.if-lane-time.false, c.capped.ensures)
