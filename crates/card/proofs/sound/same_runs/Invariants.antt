-- `card::sound::same_runs` meets its contract. Assumes nothing.
use Prim.Native.Nat.{◌≤◌, ◌-◌}
use mathlib.Core.Path.{◌≡◌}
use Rattle.inplace.specs.Lists.{selector_at}
use Rattle.card.specs.Sound.{same_among}
use Rattle.card.proofs.sound.same_runs.Given as goal

abbrev pub invariant-loop-at : goal.invariant-loop-at
invariant-loop-at l =
    (l.at ≤ 16) ×
    (l.same ≡ same_among (selector_at l.times l.small l.wider).inputs (selector_at l.later l.after l.wider).inputs l.at)

abbrev pub decreases-loop-at : goal.decreases-loop-at
decreases-loop-at l = 16 - l.at
