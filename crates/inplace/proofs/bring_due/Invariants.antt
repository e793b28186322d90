-- `inplace::bring_due` meets its contract: a turn of the loop brings one input to the time, or finds it there, and
-- makes its own time anew. Assumes nothing.
use Prim.Native.Nat.{ℕ, ◌<◌}
use mathlib.Core.Bool.{true}
use mathlib.Core.List.{map}
use mathlib.Core.Path.{◌≡◌}
use lib.ListN.{get_or}
use Rattle.input.specs.declared.Input.{Input}
use Rattle.input.specs.Record.{fresh_input, input_brought_to}
use Rattle.selector.proofs.Filled.{filled}
use Rattle.due.specs.Next.{next_among}
use Rattle.inplace.specs.Lists.{selector_at}
use Rattle.inplace.specs.Own.{PassesAlike}
use Rattle.inplace.proofs.Turn.{changed}
use Rattle.inplace.proofs.Own.{own_then}
use Rattle.inplace.proofs.bring_due.Given as goal

abbrev pub invariant-loop-at : goal.invariant-loop-at
invariant-loop-at l =
    (selector_at l.times l.small l.wider ≡
    changed (λ (input : Input). input_brought_to input l.time l.mode) l.at (selector_at l.initial.times l.initial.small l.wider)) ×
    (l.own ≡ filled (own_then l.mode l.time) l.at (selector_at l.initial.times l.initial.small l.wider).inputs l.initial.own) ×
    (l.next ≡
    next_among (map (λ (input : Input). input_brought_to input l.time l.mode) (selector_at l.initial.times l.initial.small l.wider).inputs) l.mode l.time
    l.at) ×
    (l.alike ≡ true → (number : ℕ) → number < l.at
    → PassesAlike (get_or (selector_at l.initial.times l.initial.small l.wider).inputs number fresh_input) l.mode l.time)
