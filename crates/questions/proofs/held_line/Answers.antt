-- `questions::held_line` meets its contract: the text is copied to the front.
-- Assumes nothing.
use Rattle.questions.proofs.Texts.{line_copied}
use borrow.Author.Rules.{rules}
use Rattle.questions.proofs.held_line.Goals as goal

pub returns : goal.returns
returns c =
    let copied = c.copy-count.ensures.whole (search rules) in
    line_copied _ _ _ copied.0 copied.1
