-- `console::start_line` meets its contract.
-- Assumes nothing.
use mathlib.Core.Path.{ap}
use lib.ListN.{length}
use Rattle.replay_unit.proofs.start_line.Goals as goal

pub returns : goal.returns
returns c = rw (ap length c.requires.1) at c.write_alone.ensures
