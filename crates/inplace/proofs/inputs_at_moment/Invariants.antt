-- `inplace::inputs_at_moment` meets its contract: a turn of the loop brings one input to the moment.
-- Assumes nothing.
use mathlib.Core.Bool.{false}
use mathlib.Core.Path.{◌≡◌}
use Rattle.input.specs.declared.Input.{Input}
use Rattle.input.specs.Record.{input_at_moment}
use Rattle.inplace.specs.Lists.{selector_at}
use Rattle.inplace.proofs.Turn.{changed}
use Rattle.inplace.proofs.inputs_at_moment.Given as goal

abbrev pub invariant-loop-at : goal.invariant-loop-at
invariant-loop-at l =
    selector_at l.times l.small l.wider ≡
    changed (λ (input : Input). input_at_moment input l.time l.mode false) l.at (selector_at l.initial.times l.initial.small l.wider)
