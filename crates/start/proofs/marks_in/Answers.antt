-- `start::marks_in` meets its contract: four digits are a number, by their two octets.
-- Assumes nothing.
use Rattle.start.proofs.StartLaws.{four-value}
use Rattle.start.proofs.marks_in.Goals as goal

pub returns : goal.returns
returns c = search four-value
