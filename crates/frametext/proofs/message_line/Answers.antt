-- `frametext::message_line` meets its contract.
-- Assumes nothing.
use Prim.Native.Nat.{ℕ}
use mathlib.Core.Bool.{true}
use mathlib.Core.List.{List}
use mathlib.Core.Path.{◌≡◌, sym, ap, ◌∙◌}
use native.Mathlib.Omega.{arith}
use lib.Seq.{length-take-le}
use Rattle.digits.specs.Digits.{all_digits}
use Rattle.frame.specs.declared.FrameMessage.{FrameMessage}
use Rattle.frame.specs.Read.{read_frame}
use Rattle.frametext.specs.Message.{message_text, in_front}
use Rattle.frametext.proofs.MessageLaws.{octets-front, octets-within, message_line-other, message_line_odd, message_line-long, message_line-frame}
use Rattle.frametext.proofs.message_line.Goals as goal

pub returns-then-not-all_digits : goal.returns-then-not-all_digits
returns-then-not-all_digits c =
    c.number_line.ensures
    ∙ message_line-other _ (sym c.all_digits.ensures ∙ c.if-not-all_digits.true)

pub returns-then-line-ne0 : goal.returns-then-line-ne0
returns-then-line-ne0 c = c.number_line-then-line-ne0.ensures ∙ message_line_odd _ c.if-line-ne0.true

pub returns-then-count-gt-LONGEST_FRAME : goal.returns-then-count-gt-LONGEST_FRAME
returns-then-count-gt-LONGEST_FRAME c =
    let digits : all_digits c.args.line.now ≡ true =
    sym c.all_digits.ensures ∙ c.if-not-all_digits.false in
    c.number_line-then-count-gt-LONGEST_FRAME.ensures
    ∙ message_line-long _ digits c.if-line-ne0.false c.if-count-gt-LONGEST_FRAME.true

pub octets_of-octets-requires : goal.octets_of-octets-requires
octets_of-octets-requires c =
    let digits : all_digits c.args.line.now ≡ true =
    sym c.all_digits.ensures ∙ c.if-not-all_digits.false in
    (digits, omega arith)

pub slice_bounds-read_frame-end : goal.slice_bounds-read_frame-end
slice_bounds-read_frame-end c = sym (length-take-le _ _ (octets-within _ _ c.octets_of-octets.ensures))

pub returns : goal.returns
returns c =
    let digits : all_digits c.args.line.now ≡ true =
    sym c.all_digits.ensures ∙ c.if-not-all_digits.false in
    c.line_of.ensures
    ∙ ap (λ (message : FrameMessage). in_front (message_text message)) c.read_frame.ensures
    ∙ ap (λ (frame : List ℕ). in_front (message_text (read_frame frame))) (octets-front _ _ c.octets_of-octets.ensures)
    ∙ message_line-frame _ digits c.if-line-ne0.false
