-- `inplace::put_signs` meets its contract: each turn of the loop tells one port. Assumes nothing.
use Rattle.selector.proofs.Filled.{filled-done}
use Rattle.selector.proofs.SelectorLaws.{halved-laws}
use Rattle.inplace.proofs.Turn.{sign-turn}
use borrow.Author.Rules.{rules}
use Rattle.inplace.proofs.put_signs.Goals as goal

pub loop-port-init : goal.loop-port-init
loop-port-init g c = (search halved-laws, search rules)

pub loop-port-preserved : goal.loop-port-preserved
loop-port-preserved g c = (search halved-laws, search sign-turn)

pub returns : goal.returns
returns g c = search filled-done
