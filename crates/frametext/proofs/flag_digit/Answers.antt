-- `frametext::flag_digit` meets its contract.
-- Assumes nothing.
use Rattle.digits.specs.Digits.{digit_of}
use Rattle.frametext.proofs.flag_digit.Goals as goal

pub returns-then-event : goal.returns-then-event
unfolding digit_of
returns-then-event c = rw c.if-event.true

pub returns-else-event : goal.returns-else-event
unfolding digit_of
returns-else-event c = rw c.if-event.false
