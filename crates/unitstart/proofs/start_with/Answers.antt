-- `unitstart::start_with` meets its contract: a minimum above 255 is out of range.
-- Assumes nothing.
use native.Mathlib.Omega.{arith}
use Rattle.text.proofs.PlacedText.{read_number-most}
use Rattle.unitstart.proofs.UnitStartLaws.{with-above, with_number}
use borrow.Author.Rules.{rules}
use Rattle.unitstart.proofs.start_with.Goals as goal

pub returns-in_default : goal.returns-in_default
returns-in_default c = search (with-above, rules)

pub overflow_cast-number : goal.overflow_cast-number
overflow_cast-number c =
    record { fits = omega (arith, read_number-most _ _ _ c.in-Some.ensures) }

pub returns : goal.returns
returns c = with_number _ _ c.requires _ _ c.in-Some.ensures c.start_of.ensures
