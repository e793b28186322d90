-- `inplace::next_due` meets its contract. Assumes nothing.
use mathlib.Core.Path.{◌≡◌}
use Rattle.due.specs.Next.{next_among}
use Rattle.inplace.specs.Lists.{selector_at}
use Rattle.inplace.proofs.next_due.Given as goal

abbrev pub invariant-loop-at : goal.invariant-loop-at
invariant-loop-at l =
    l.due ≡ next_among (selector_at l.times l.small l.wider).inputs l.mode l.time l.at
