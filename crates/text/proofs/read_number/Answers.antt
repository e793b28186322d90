-- `text::read_number` meets its contract: what holds at each turn is `Reading`.
-- Assumes nothing.
use mathlib.Core.Path.{sym, ◌∙◌}
use native.Mathlib.Omega.{arith}
use Rattle.text.proofs.PlacedText.{read_number-none, read_number-some, read_on_low, read_on_high, read_on_over, read_on_next, read_on_end}
use Rattle.text.proofs.read_number.Goals as goal
use Rattle.text.proofs.read_number.Goals.{then-most-digit-via-then-most-digit, then-most-digit-via-else-most-digit+then-most-digit-2}

pub returns-then-is_empty : goal.returns-then-is_empty
returns-then-is_empty c = read_number-none _ _ (grind arith)

pub loop-character-init : goal.loop-character-init
loop-character-init c = record { fits = omega arith; rest = read_number-some _ _ (grind arith) }

pub returns-in_default : goal.returns-in_default
returns-in_default c =
    read_on_low _ _ _ _ c.loop-character-test.true (omega arith) ∙ sym c.loop-character.invariant.rest

pub returns-in_default-2 : goal.returns-in_default-2
returns-in_default-2 c =
    read_on_high _ _ _ _ c.loop-character-test.true (omega arith) ∙ sym c.loop-character.invariant.rest

pub returns-then-most-digit : goal.returns-then-most-digit
returns-then-most-digit c =
    read_on_over _ _ c.loop-character.value _ c.loop-character-test.true
    (elim c.then-most-digit.branch [
      | then-most-digit-via-then-most-digit w ↦ omega arith
      | then-most-digit-via-else-most-digit+then-most-digit-2 w ↦ omega arith
    ])
    ∙ sym c.loop-character.invariant.rest

pub loop-character-preserved : goal.loop-character-preserved
loop-character-preserved c =
    record {
      fits = omega arith;
      rest =
          c.loop-character.invariant.rest
          ∙ read_on_next _ _ _ _ c.loop-character-test.true (omega arith) (omega arith);
    }

pub returns : goal.returns
returns c =
    read_on_end _ _ _ _ c.loop-character-test.false c.loop-character.invariant.fits
    ∙ sym c.loop-character.invariant.rest
