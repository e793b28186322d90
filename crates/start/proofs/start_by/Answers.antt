-- `start::start_by` meets its contract.
-- Assumes nothing.
use borrow.Author.Rules.{rules}
use Rattle.start.specs.Start.{start_by}
use Rattle.start.proofs.start_by.Goals as goal

pub returns-in-0 : goal.returns-in-0
unfolding start_by
returns-in-0 c = search rules

pub returns-in-3 : goal.returns-in-3
unfolding start_by
returns-in-3 c = search rules

pub returns-in_default : goal.returns-in_default
unfolding start_by
returns-in_default c = search rules
