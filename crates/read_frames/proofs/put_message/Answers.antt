-- `read_frames::put_message` meets its contract.
-- Assumes nothing.
use mathlib.Core.Path.{refl}
use native.Mathlib.Omega.{arith}
use Rattle.replayer.proofs.Written.{put-text}
use borrow.Author.Rules.{rules}
use Rattle.read_frames.proofs.put_message.Goals as goal

pub returns : goal.returns
returns c =
    let room = c.requires in
    let copied = c.copy-copied.ensures.whole (search rules) in
    put-text _ _ _ _ _ _ (omega (arith, c.requires)) refl copied.0 copied.1
