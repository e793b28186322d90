-- `start::read_start` meets its contract: the words are those that it lends `start_by`.
-- Assumes nothing.
use Rattle.start.proofs.read_start.Goals as goal

pub returns : goal.returns
returns c =
    record {
      count = _;
      option = _;
      provplace = _;
      marks = _;
      is = c.start_by.ensures;
    }
