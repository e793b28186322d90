-- `card::self_test::self_test` meets its contract. Assumes nothing.
use mathlib.Core.Path.{◌≡◌}
use Rattle.onestep.specs.Watched.{watch_at}
use Rattle.card.specs.SelfTest.{test_lines}
use Rattle.card.proofs.Tested.{Answered}
use Rattle.card.proofs.self_test.self_test.Given as goal

abbrev pub invariant-loop-line : goal.invariant-loop-line
invariant-loop-line l =
    (l.line-items ≡ test_lines) × Answered l.line-items l.line-index l.right (watch_at l.times l.small l.wider l.due l.told)
