-- `unitstart::read_unit_start` meets its contract: the words are those that it lends `unit_start_by`.
-- Assumes nothing.
use Rattle.unitstart.proofs.read_unit_start.Goals as goal

pub returns : goal.returns
returns c =
    record {
      count = _;
      option = _;
      provplace = _;
      marks = _;
      minimum = _;
      is = c.unit_start_by.ensures;
    }
