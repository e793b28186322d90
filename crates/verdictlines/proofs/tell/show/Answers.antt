-- `verdictlines::tell::show` meets its contract: each way is a law.
-- Assumes nothing.
use Rattle.verdictlines.proofs.ToldLaws.{told-laws}
use Rattle.verdictlines.proofs.tell.show.Goals as goal

pub returns : goal.returns
returns c = (search told-laws, c.write_stretch.ensures)
