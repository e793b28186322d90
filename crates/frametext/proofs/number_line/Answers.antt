-- `frametext::number_line` meets its contract.
-- Assumes nothing.
use Rattle.digits.specs.Digits.{digits_of}
use Rattle.frametext.specs.Message.{in_front}
use Rattle.frametext.proofs.number_line.Goals as goal

pub returns : goal.returns
unfolding in_front digits_of
returns c = rw c.write_digits.ensures
