-- `verdictlines::bench::right_at` meets its contract: each way is a law.
-- Assumes nothing.
use Rattle.verdictlines.proofs.BenchLaws.{bench-laws}
use Rattle.verdictlines.proofs.bench.right_at.Goals as goal

pub returns-then-number-lt16 : goal.returns-then-number-lt16
returns-then-number-lt16 c = search bench-laws

pub returns-then-view : goal.returns-then-view
returns-then-view c = search bench-laws

pub returns : goal.returns
returns c = search bench-laws
