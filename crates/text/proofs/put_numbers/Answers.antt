-- `text::put_numbers` meets its contract: there is room, or nothing is written.
-- Assumes nothing.
use native.Mathlib.Omega.{arith}
use Rattle.text.proofs.PlacedText.{put-none}
use Rattle.text.proofs.put_numbers.Goals as goal

pub returns-then-out-place : goal.returns-then-out-place
returns-then-out-place c = put-none _ _ _ (omega arith)

pub returns-then-out-place-2 : goal.returns-then-out-place-2
returns-then-out-place-2 c = put-none _ _ _ (omega arith)
