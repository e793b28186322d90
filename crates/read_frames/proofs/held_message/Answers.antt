-- `read_frames::held_message` meets its contract.
-- Assumes nothing.
use mathlib.Core.Path.{sym, ◌∙◌}
use native.Mathlib.Omega.{arith}
use lib.Seq.{length-take-le}
use Rattle.read_frames.proofs.Lines.{told-short, told_even, told-other, told-within, told-inside}
use Rattle.read_frames.proofs.held_message.Goals as goal

pub slice_bounds-message_line-end : goal.slice_bounds-message_line-end
slice_bounds-message_line-end c =
    sym (length-take-le _ _ (omega (arith, c.if-buffered-le-LONGEST_LINE.true, c.requires)))

pub returns-then-buffered-le-LONGEST_LINE : goal.returns-then-buffered-le-LONGEST_LINE
returns-then-buffered-le-LONGEST_LINE c = (
  told-within _ c.message_line.ensures,
  told-inside _ c.message_line.ensures,
  λ come holds. c.message_line.ensures ∙ told-short _ _ come holds c.if-buffered-le-LONGEST_LINE.true,
)

pub returns-then-buffered-eq-LONG_EVEN : goal.returns-then-buffered-eq-LONG_EVEN
returns-then-buffered-eq-LONG_EVEN c = (
  told-within _ c.message_line-then-buffered-eq-LONG_EVEN.ensures,
  told-inside _ c.message_line-then-buffered-eq-LONG_EVEN.ensures,
  λ come holds. c.message_line-then-buffered-eq-LONG_EVEN.ensures ∙ told_even _ _ come holds c.if-buffered-eq-LONG_EVEN.true,
)

pub returns : goal.returns
returns c =
    let other = c in (
      told-within _ c.message_line-2.ensures,
      told-inside _ c.message_line-2.ensures,
      λ come holds.
          c.message_line-2.ensures ∙ told-other _ _ come holds other.if-buffered-le-LONGEST_LINE.false other.if-buffered-eq-LONG_EVEN.false,
    )
