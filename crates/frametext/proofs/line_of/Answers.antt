-- `frametext::line_of` meets its contract.
-- Assumes nothing.
use Prim.Native.Nat.{ℕ}
use mathlib.Core.List.{[], ◌∷◌}
use mathlib.Core.Path.{ap, ◌∙◌}
use Rattle.digits.specs.Digits.{digits_of}
use Rattle.frametext.specs.Message.{in_front}
use Rattle.frametext.proofs.MessageLaws.{message_text-refused, message_text-code}
use Rattle.frametext.proofs.line_of.Goals as goal

pub returns-in_default : goal.returns-in_default
returns-in_default c =
    c.number_line.ensures
    ∙ ap (λ (number : ℕ). in_front (digits_of (number ∷ []))) c.number_of_read.ensures
    ∙ ap in_front (message_text-refused _ _ c.in_default.is)

pub returns : goal.returns
returns c = c.code_line.ensures ∙ ap in_front (message_text-code _ _ c.in-Code.is)
