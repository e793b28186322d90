-- `verdictlines::bench::is_late` meets its contract.
-- Assumes nothing.
use mathlib.Core.Bool.{not}
use mathlib.Core.Path.{sym, ap, ◌∙◌}
use Rattle.verdictlines.specs.Bench.{is_late}
use Rattle.verdictlines.proofs.bench.is_late.Goals as goal

pub returns-then-not-is_early : goal.returns-then-not-is_early
unfolding is_late
returns-then-not-is_early c = rw (sym c.is_early.ensures ∙ c.if-not-is_early.true)

pub returns-else-not-is_early : goal.returns-else-not-is_early
unfolding is_late
returns-else-not-is_early c =
    rw (sym c.is_early.ensures ∙ c.if-not-is_early.false) (ap not c.if-not-is_early.false)
