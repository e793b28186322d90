-- `start::is_decimal` meets its contract: no character is other than a numeral.
-- Assumes nothing.
use native.Mathlib.Omega.{arith}
use Rattle.start.proofs.StartLaws.{decimal-by}
use Rattle.start.proofs.is_decimal.Goals as goal

pub returns-then-not-is_empty : goal.returns-then-not-is_empty
returns-then-not-is_empty c = decimal-by _ _ (grind arith) c.has_numerals.ensures
