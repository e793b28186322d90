-- `verdictlines::bench::border_of` meets its contract: it is the sum.
-- Assumes nothing.
use Rattle.verdictlines.proofs.bench.border_of.Goals as goal

pub returns : goal.returns
returns c = c.capped.ensures
