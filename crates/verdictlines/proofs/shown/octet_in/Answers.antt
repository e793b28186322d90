-- `verdictlines::shown::octet_in` meets its contract: the two digits at a place.
-- Assumes nothing.
use Rattle.eventlog.specs.InnerPromises.{octet_at}
use borrow.Author.Rules.{rules}
use Rattle.verdictlines.proofs.shown.octet_in.Goals as goal

pub returns : goal.returns
unfolding octet_at
returns c = search rules
