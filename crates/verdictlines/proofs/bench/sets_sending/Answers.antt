-- `verdictlines::bench::sets_sending` meets its contract: each way is a law.
-- Assumes nothing.
use Rattle.verdictlines.proofs.BenchLaws.{bench-laws}
use Rattle.verdictlines.proofs.bench.sets_sending.Goals as goal

pub returns-in_default : goal.returns-in_default
returns-in_default c = search bench-laws

pub returns : goal.returns
returns c = search bench-laws
