-- `run::Run::brought_to` meets its contract: where a frame has expired, its end is a time. Assumes nothing.
use Prim.Native.Nat.{ℕ, ◌+◌, ◌≤◌}
use mathlib.Core.Bool.{Bool, true}
use mathlib.Core.Path.{◌≡◌, sym, ◌∙◌}
use native.Mathlib.Omega.{arith}
use mir.Val.{Fits}
use mir.Syntax.{w64}
use borrow.Author.Tests.{leb-true}
use Rattle.numbers.specs.Inputs.{frame_life}
use Rattle.numbers.proofs.Truth.{both-second}
use Rattle.run.specs.declared.Forecast.{Forecast}
use Rattle.run.specs.Run.{is_expired}
use Rattle.run.proofs.Run.brought_to.Goals as goal

-- a frame that has expired did so at or before the time
is_expired-end : (forecast : Forecast) (time : ℕ) → is_expired forecast time ≡ true
    → forecast.framed + frame_life ≤ time
unfolding is_expired
is_expired-end forecast time e = leb-true _ _ (both-second forecast.expires _ e)

-- its end is a time
is_expired-fits : (forecast : Forecast) (time : ℕ) (test : Bool) → test ≡ is_expired forecast time → test ≡ true
    → Fits w64 time → Fits w64 (forecast.framed + frame_life)
is_expired-fits forecast time test q t fits = let e = is_expired-end forecast time (sym q ∙ t) in omega arith

pub overflow_add-end : goal.overflow_add-end
overflow_add-end c = search is_expired-fits
