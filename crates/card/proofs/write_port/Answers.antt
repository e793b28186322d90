-- `card::write_port` meets its contract. Assumes nothing.
use Rattle.card.proofs.CardLaws.{writePort-laws}
use Rattle.card.proofs.write_port.Goals as goal

pub returns-then-port-gt-LAST_INPUT : goal.returns-then-port-gt-LAST_INPUT
returns-then-port-gt-LAST_INPUT c = search writePort-laws

pub returns : goal.returns
returns c = search writePort-laws
