-- `digits::decimal::decimal` meets its contract: what holds at each turn is `SoFar`; the measure is how many places are
-- left. Assumes nothing.
use Rattle.digits.proofs.Decimals.{SoFar}
use Rattle.digits.proofs.decimal.decimal.Given as goal

abbrev pub invariant-loop-rest : goal.invariant-loop-rest
invariant-loop-rest l = SoFar l.number l.text l.start l.rest

abbrev pub decreases-loop-rest : goal.decreases-loop-rest
decreases-loop-rest l = l.start
