-- `verdictlines::bench::shows_after` meets its contract: each way is a law.
-- Assumes nothing.
use Rattle.verdictlines.proofs.BenchLaws.{bench-laws}
use Rattle.verdictlines.proofs.bench.shows_after.Goals as goal

pub returns-then-changes : goal.returns-then-changes
returns-then-changes c = search bench-laws

pub returns : goal.returns
returns c = search bench-laws
