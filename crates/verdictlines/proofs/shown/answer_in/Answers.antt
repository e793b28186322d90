-- `verdictlines::shown::answer_in` meets its contract: five octets behind the time.
-- Assumes nothing.
use Rattle.verdictlines.proofs.ShownLaws.{shown-laws}
use Rattle.verdictlines.proofs.shown.answer_in.Goals as goal

pub returns : goal.returns
returns c = search shown-laws
