-- `verdictlines::bench::closed_after` meets its contract: each way is a law.
-- Assumes nothing.
use Rattle.verdictlines.proofs.BenchLaws.{bench-laws}
use Rattle.verdictlines.proofs.bench.closed_after.Goals as goal

pub returns-then-closed-border : goal.returns-then-closed-border
returns-then-closed-border c = search bench-laws

pub returns : goal.returns
returns c = search bench-laws
