-- `text::read_number` meets its contract: what holds at each turn is `Reading`.
-- Assumes nothing.
use Rattle.text.proofs.PlacedText.{Reading}
use Rattle.text.proofs.read_number.Given as goal

abbrev pub invariant-loop-character : goal.invariant-loop-character
invariant-loop-character l = Reading l.text l.most l.value l.character-index
