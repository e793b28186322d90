-- `frametext::code_line` meets its contract.
-- Assumes nothing.
use mathlib.Core.Path.{◌≡◌}
use lib.ListN.{length}
use Rattle.digits.specs.Digits.{digits_of}
use Rattle.frametext.proofs.MessageLaws.{places_from, code_line_is}
use borrow.Author.Rules.{rules}
use Rattle.frametext.proofs.code_line.Goals as goal

pub returns : goal.returns
unfolding digits_of places_from
returns c =
    let six : 6 ≡ length c.args.source = search rules in
    rw (
      c.address_digits-address.ensures,
      c.upper_digit.ensures,
      c.lower_digit.ensures,
      c.lower_digit-2.ensures,
      c.flag_digit.ensures,
    )
    (code_line_is _ _ c.args.source six)
