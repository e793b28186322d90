-- `verdictlines::bench::is_early` meets its contract.
-- Assumes nothing.
use borrow.Author.Tests.{eq-eqb, ne_eqb}
use Rattle.verdictlines.specs.Bench.{is_early}
use Rattle.verdictlines.proofs.bench.is_early.Goals as goal

pub returns-then-number-ne0 : goal.returns-then-number-ne0
unfolding is_early
returns-then-number-ne0 c = rw (ne_eqb c.args.number 0 c.if-number-ne0.true)

pub returns-else-number-ne0 : goal.returns-else-number-ne0
unfolding is_early
returns-else-number-ne0 c = rw (eq-eqb c.args.number 0 c.if-number-ne0.false)
