-- `text::put_decimal` meets its contract: the digits are copied.
-- Assumes nothing.
use Prim.Native.Nat.{◌-◌}
use mathlib.Core.Path.{◌≡◌, ap, ◌∙◌}
use native.Mathlib.Omega.{arith}
use lib.ListN.{length, drop, length-take, length-drop}
use Rattle.digits.specs.Decimal.{decimal_of}
use Rattle.text.proofs.PlacedText.{decimal-text, written-decimal}
use Rattle.text.proofs.put_decimal.Goals as goal

pub returns : goal.returns
returns c =
    let a = c.args in
    let digits : c.as_slice.result.now ≡ decimal_of a.number =
    c.as_slice.ensures ∙ (decimal-text a.number (omega (arith, c.ranges.number)) c.decimal.result c.decimal.ensures).digits in
    let copied = c.copy-copied.ensures.whole
    (omega (
      arith,
      c.requires,
      ap length digits,
      length-take (length a.out.now - a.place) (drop a.place a.out.now),
      length-drop a.place a.out.now,
    )) in
    written-decimal _ a.place _ _ a.out.now _ (omega (arith, c.requires)) digits copied.0 copied.1
