-- `verdictlines::tell::new_from` meets its contract: each way is a law.
-- Assumes nothing.
use Rattle.verdictlines.proofs.ToldLaws.{told-laws}
use Rattle.verdictlines.proofs.tell.new_from.Goals as goal

pub returns-then-lane-eq0 : goal.returns-then-lane-eq0
returns-then-lane-eq0 c = search told-laws

pub returns : goal.returns
returns c = search told-laws
