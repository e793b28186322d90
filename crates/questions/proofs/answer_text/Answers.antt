-- `questions::answer_text` meets its contract.
-- Assumes nothing.
use mathlib.Core.Path.{ap, ◌∙◌}
use Rattle.questions.specs.Asked.{held_line}
use Rattle.questions.proofs.answer_text.Goals as goal

pub returns : goal.returns
returns c = c.held_line.ensures ∙ ap held_line c.answer_line.ensures
