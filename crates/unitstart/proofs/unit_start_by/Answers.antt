-- `unitstart::unit_start_by` meets its contract.
-- Assumes nothing.
use borrow.Author.Rules.{rules}
use Rattle.unitstart.specs.Start.{unit_start_by}
use Rattle.unitstart.proofs.unit_start_by.Goals as goal

pub returns-then-count-ne-ARGUMENTS : goal.returns-then-count-ne-ARGUMENTS
unfolding unit_start_by
returns-then-count-ne-ARGUMENTS c = search rules

pub returns : goal.returns
unfolding unit_start_by
returns c = search rules
