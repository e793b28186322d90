-- `verdictlines::tell::last_at` meets its contract: each way is a law.
-- Assumes nothing.
use Rattle.verdictlines.proofs.ToldLaws.{told-laws}
use Rattle.verdictlines.proofs.tell.last_at.Goals as goal

pub returns-then-index-lt-ROOM : goal.returns-then-index-lt-ROOM
returns-then-index-lt-ROOM c = search told-laws

pub returns : goal.returns
returns c = search told-laws
