-- `inplace::put_fresh` meets its contract. Assumes nothing.
use mathlib.Core.Path.{◌≡◌}
use Rattle.input.specs.declared.Input.{Input}
use Rattle.input.specs.Record.{fresh_input}
use Rattle.inplace.specs.Lists.{selector_at}
use Rattle.inplace.proofs.Turn.{changed}
use Rattle.inplace.proofs.put_fresh.Given as goal

abbrev pub invariant-loop-at : goal.invariant-loop-at
invariant-loop-at l =
    selector_at l.times l.small l.wider ≡
    changed (λ (one : Input). fresh_input) l.at (selector_at l.initial.times l.initial.small l.initial.wider)
