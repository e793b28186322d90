-- What the code's steps take beside the definitions of `specs/`. Assumes nothing.
use mathlib.Core.List.{[]}
use mathlib.Core.Path.{◌≡◌, refl}
use Rattle.numbers.specs.Refusal.{frame_length}
use Rattle.numbers.specs.Rows.{first_that_applies}
use Rattle.frame.specs.declared.FrameRead.TheVariants as R
use Rattle.frame.specs.Read.{right_length, frame_number, read_code}

-- what comes with a tick reads as a frame that is too short
pub read_code_none : read_code [] ≡ R.Refused frame_length
unfolding read_code frame_number first_that_applies right_length
read_code_none = refl
