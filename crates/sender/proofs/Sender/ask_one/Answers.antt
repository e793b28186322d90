-- `sender::Sender::ask_one` meets its contract: each way is a law.
-- Assumes nothing.
use borrow.Author.Rules.{rules}
use Rattle.sender.proofs.SenderLaws.{lent-laws, one-refused, one_no_code, one-accepted}
use Rattle.sender.proofs.Sender.ask_one.Goals as goal

pub returns-then-number-ne-ACCEPTED : goal.returns-then-number-ne-ACCEPTED
returns-then-number-ne-ACCEPTED c = search one-refused

pub returns-then-code-gt-LARGEST_CODE : goal.returns-then-code-gt-LARGEST_CODE
returns-then-code-gt-LARGEST_CODE c = search one_no_code

pub send-requires : goal.send-requires
send-requires c = (search rules, search lent-laws, search lent-laws)

pub returns : goal.returns
returns c = search one-accepted
