-- `verdictlines::bench::happened_after` meets its contract: each way is a law.
-- Assumes nothing.
use Rattle.verdictlines.proofs.BenchLaws.{bench-laws}
use Rattle.verdictlines.proofs.bench.happened_after.Goals as goal

pub returns-then-is_early : goal.returns-then-is_early
returns-then-is_early c = search bench-laws

pub returns : goal.returns
returns c = search bench-laws
