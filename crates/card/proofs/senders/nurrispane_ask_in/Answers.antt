-- `card::senders::nurrispane_ask_in` meets its contract. Assumes nothing.
use Rattle.card.proofs.Asking.{asked-lent}
use Rattle.card.proofs.senders.nurrispane_ask_in.Goals as goal

pub returns : goal.returns
returns c = search asked-lent
