-- `questions::frame_text` meets its contract: the digits are in front, and LF behind them.
-- Assumes nothing.
use mathlib.Core.Path.{◌≡◌, ◌∙◌}
use native.Mathlib.Omega.{arith}
use lib.ListN.{length}
use Rattle.digits.proofs.Writing.{digits-filled}
use Rattle.questions.proofs.Texts.{frame-done}
use borrow.Author.Rules.{rules}
use Rattle.questions.proofs.frame_text.Goals as goal

pub returns : goal.returns
returns c =
    let frame = c.args.frame in
    let sixty : length frame ≡ 60 = search rules in
    frame-done frame sixty _ (c.write_digits.ensures ∙ digits-filled frame 121 0 (omega arith))
