-- `verdictlines::bench::may_change` meets its contract: each way is a law.
-- Assumes nothing.
use Rattle.verdictlines.proofs.BenchLaws.{bench-laws}
use Rattle.verdictlines.proofs.bench.may_change.Goals as goal

pub returns-then-first : goal.returns-then-first
returns-then-first c = search bench-laws

pub returns-then-anew : goal.returns-then-anew
returns-then-anew c = search bench-laws

pub returns : goal.returns
returns c = search bench-laws
