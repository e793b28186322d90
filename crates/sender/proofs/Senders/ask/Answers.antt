-- `sender::Senders::ask` meets its contract: each way is a law.
-- Assumes nothing.
use native.Mathlib.Omega.{arith}
use Rattle.sender.proofs.SenderLaws.{ask_no_port, ask-port}
use Rattle.sender.proofs.Senders.ask.Goals as goal

pub returns-then-port-gt-LAST_PORT : goal.returns-then-port-gt-LAST_PORT
returns-then-port-gt-LAST_PORT c =
    ask_no_port _ _ _ _ _ _ (omega arith) _ c.if-port-gt-LAST_PORT.true c.question_number-number.ensures

pub returns : goal.returns
returns c =
    ask-port _ _ _ _ _ _ (omega arith) c.if-port-gt-LAST_PORT.false _ _ _ _ _ c.codes_at-codes.ensures c.ask_one.ensures
