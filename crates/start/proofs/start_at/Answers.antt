-- `start::start_at` meets its contract: a place above 255 is above 8.
-- Assumes nothing.
use native.Mathlib.Omega.{arith}
use Rattle.text.proofs.PlacedText.{read_number-most}
use Rattle.start.proofs.StartLaws.{place-above, place_start}
use borrow.Author.Rules.{rules}
use Rattle.start.proofs.start_at.Goals as goal

pub returns-in_default : goal.returns-in_default
returns-in_default c = search (place-above, rules)

pub overflow_cast-number : goal.overflow_cast-number
overflow_cast-number c =
    record { fits = omega (arith, read_number-most _ _ _ c.in-Some.ensures) }

pub returns : goal.returns
returns c = place_start _ _ _ c.requires _ _ c.in-Some.ensures c.start_of.ensures
