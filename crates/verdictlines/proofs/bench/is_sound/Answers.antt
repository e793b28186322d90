-- `verdictlines::bench::is_sound` meets its contract: each way is a law.
-- Assumes nothing.
use Rattle.verdictlines.proofs.BenchLaws.{bench-laws}
use Rattle.verdictlines.proofs.bench.is_sound.Goals as goal

pub returns-then-option-eq-NO_OPTION : goal.returns-then-option-eq-NO_OPTION
returns-then-option-eq-NO_OPTION c = search bench-laws

pub returns-then-happened : goal.returns-then-happened
returns-then-happened c = search bench-laws

pub returns-then-may_show : goal.returns-then-may_show
returns-then-may_show c = search bench-laws

pub returns : goal.returns
returns c = search bench-laws
