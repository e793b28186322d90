-- `verdictlines::shown::time_in` meets its contract: six octets, high first.
-- Assumes nothing.
use Rattle.verdictlines.proofs.ShownLaws.{shown-laws}
use Rattle.verdictlines.proofs.shown.time_in.Goals as goal

pub returns : goal.returns
returns c = search shown-laws
