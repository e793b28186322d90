-- `verdictlines::bench::shown_by` meets its contract: each way is a law.
-- Assumes nothing.
use Rattle.verdictlines.proofs.BenchLaws.{bench-laws}
use Rattle.verdictlines.proofs.bench.shown_by.Goals as goal

pub returns : goal.returns
returns c = search bench-laws
