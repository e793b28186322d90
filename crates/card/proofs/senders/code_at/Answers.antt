-- `card::senders::code_at` meets its contract. Assumes nothing.
use Rattle.card.proofs.Asking.{code_laws}
use Rattle.card.proofs.senders.code_at.Goals as goal

pub returns-then-port-gt-LAST_INPUT : goal.returns-then-port-gt-LAST_INPUT
returns-then-port-gt-LAST_INPUT c = search code_laws

pub returns : goal.returns
returns c = search code_laws
