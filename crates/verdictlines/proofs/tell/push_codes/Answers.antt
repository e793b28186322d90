-- `verdictlines::tell::push_codes` meets its contract: what is left of the ports leads to what all of them lead to.
-- Assumes nothing.
use mathlib.Core.Path.{refl}
use Rattle.verdictlines.proofs.StoppedLaws.{stays_same, stopped-laws}
use Rattle.verdictlines.proofs.ToldLaws.{ports-laws}
use Rattle.verdictlines.proofs.tell.push_codes.Goals as goal

pub loop-number-init : goal.loop-number-init
loop-number-init c = (refl, stays_same _)

pub loop-number-preserved : goal.loop-number-preserved
loop-number-preserved c = (search ports-laws, search stopped-laws)

pub returns : goal.returns
returns c = (search ports-laws, search ports-laws, c.loop-number.invariant.1)
