-- `verdictlines::tell::tell_shown` meets its contract: each way is a law.
-- Assumes nothing.
use Rattle.verdictlines.proofs.StoppedLaws.{stopped-laws}
use Rattle.verdictlines.proofs.ToldLaws.{shown-told-laws}
use Rattle.verdictlines.proofs.tell.tell_shown.Goals as goal

pub returns-then-border-due : goal.returns-then-border-due
returns-then-border-due c = (search shown-told-laws, search shown-told-laws, search stopped-laws)

pub returns : goal.returns
returns c = (search shown-told-laws, search shown-told-laws, search stopped-laws)
