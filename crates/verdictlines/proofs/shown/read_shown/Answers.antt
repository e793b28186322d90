-- `verdictlines::shown::read_shown` meets its contract: each way is a law.
-- Assumes nothing.
use Rattle.verdictlines.proofs.ShownLaws.{shown-laws}
use Rattle.verdictlines.proofs.shown.read_shown.Goals as goal

pub returns-then-view : goal.returns-then-view
returns-then-view c = search shown-laws

pub returns : goal.returns
returns c = search shown-laws
