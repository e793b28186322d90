-- `frametext::address_digits` meets its contract.
-- Assumes nothing.
use Prim.Native.Nat.{ℕ, ◌*◌, ◌-◌}
use mathlib.Core.List.{◌++◌, append-nil}
use mathlib.Core.Path.{◌≡◌, ap, ◌∙◌}
use native.Mathlib.Omega.{arith}
use lib.ListN.{length, replicate}
use Rattle.digits.specs.Digits.{digits_of}
use Rattle.digits.proofs.Writing.{digits-filled}
use borrow.Author.Rules.{rules}
use Rattle.frametext.proofs.address_digits.Goals as goal

pub returns : goal.returns
returns c =
    let source = c.args.source in
    let six : length source ≡ 6 = search rules in
    c.write_digits.ensures
    ∙ digits-filled source 12 0 (omega arith)
    ∙ ap (λ (n : ℕ). digits_of source ++ replicate (12 - 2 * n) 0) six
    ∙ append-nil (digits_of source)
