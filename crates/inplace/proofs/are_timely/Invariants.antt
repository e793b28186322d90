-- `inplace::are_timely` meets its contract: in the loop the first `at` inputs are timely. Assumes nothing.
use Prim.Native.Nat.{ℕ, ◌<◌}
use mathlib.Core.Bool.{true}
use mathlib.Core.Path.{◌≡◌}
use Rattle.inplace.specs.Lists.{input_at}
use Rattle.inplace.specs.Own.{is_timely}
use Rattle.inplace.proofs.are_timely.Given as goal

abbrev pub invariant-loop-at : goal.invariant-loop-at
invariant-loop-at l =
    (number : ℕ) → number < l.at → is_timely (input_at l.times l.small l.wider number) l.mode ≡ true
