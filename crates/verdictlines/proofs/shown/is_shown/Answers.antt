-- `verdictlines::shown::is_shown` meets its contract: each way is a law.
-- Assumes nothing.
use Rattle.verdictlines.proofs.ShownLaws.{shown-laws}
use Rattle.verdictlines.proofs.shown.is_shown.Goals as goal

pub returns-then-line-eq0 : goal.returns-then-line-eq0
returns-then-line-eq0 c = search shown-laws

pub returns : goal.returns
returns c = search shown-laws
