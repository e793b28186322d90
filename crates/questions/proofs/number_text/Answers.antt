-- `questions::number_text` meets its contract.
-- Assumes nothing.
use mathlib.Core.Path.{ap, ◌∙◌}
use Rattle.digits.specs.Digits.{digits_of}
use Rattle.questions.specs.Asked.{held_line}
use Rattle.questions.proofs.number_text.Goals as goal

pub returns : goal.returns
unfolding digits_of
returns c = c.held_line.ensures ∙ ap held_line c.write_digits.ensures
