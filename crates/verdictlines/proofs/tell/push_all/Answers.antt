-- `verdictlines::tell::push_all` meets its contract: each way is a law.
-- Assumes nothing.
use Rattle.verdictlines.proofs.ToldLaws.{span-laws}
use Rattle.verdictlines.proofs.tell.push_all.Goals as goal

pub returns-then-view : goal.returns-then-view
returns-then-view c = (search span-laws, search span-laws, c.push_codes.ensures.2)

pub returns : goal.returns
returns c = (search span-laws, search span-laws, c.push.ensures.2)
