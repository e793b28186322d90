-- `replay_unit::say_unit_start` meets its contract: each line is what is said of its start.
-- Assumes nothing.
use mathlib.Core.Path.{◌≡◌}
use Rattle.digits.specs.Digits.{digits_of, upper_digit, lower_digit, digit_of}
use Rattle.calls.specs.Said.{octets_of_text}
use Rattle.start.specs.declared.StartError.TheVariants.{Refused, NoStart}
use Rattle.start.specs.Said.{start_said}
use Rattle.replay_unit.specs.Said.{unit_start_said}
use Rattle.replay_unit.proofs.say_unit_start.Goals as goal

pub start_line-requires : goal.start_line-requires
unfolding unit_start_said octets_of_text
start_line-requires c = (rw c.in-Ok.is, rw c.in-Ok.is)

pub start_line-requires-in-Err-Refused : goal.start_line-requires-in-Err-Refused
unfolding unit_start_said start_said digits_of upper_digit lower_digit digit_of
start_line-requires-in-Err-Refused c =
    let way = c.in-Err-Refused in
    let is : way.field-0 ≡ Refused = rw way.is at way.field-0-is in
    (rw (way.is, is), rw (way.is, is))

pub start_line-requires-in-Err-NoStart : goal.start_line-requires-in-Err-NoStart
unfolding unit_start_said octets_of_text
start_line-requires-in-Err-NoStart c =
    let way = c.in-Err-NoStart in
    let is : way.field-0 ≡ NoStart = rw way.is at way.field-0-is in
    (rw (way.is, is), rw (way.is, is))
