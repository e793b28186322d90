-- `questions::is_asked` meets its contract: each way is a law.
-- Assumes nothing.
use native.Mathlib.Omega.{arith}
use Rattle.questions.proofs.Texts.{is_asked-none, is_asked-mark, is_asked-other}
use Rattle.questions.proofs.is_asked.Goals as goal

pub returns-in-63 : goal.returns-in-63
returns-in-63 c = is_asked-mark _ (omega arith) (omega arith)

pub returns-in_default : goal.returns-in_default
returns-in_default c = is_asked-none _ (omega arith)

pub returns-in_default-2 : goal.returns-in_default-2
returns-in_default-2 c = is_asked-other _ (omega arith) (omega arith)
