-- `frametext::octets_of` meets its contract: the octets are in front, zeros stand after them.
-- Assumes nothing.
use mathlib.Core.Path.{ap, ◌∙◌}
use Prim.Native.Nat.{ℕ, ◌-◌}
use mathlib.Core.List.{◌++◌}
use lib.ListN.{replicate}
use Rattle.digits.specs.Digits.{octets_of}
use Rattle.digits.proofs.Values.{octets_of-length}
use Rattle.digits.proofs.Writing.{octets-filled}
use Rattle.frame.specs.Octets.{longest_frame}
use Rattle.frametext.proofs.octets_of.Goals as goal

pub returns : goal.returns
returns c =
    let line = c.args.line.now in
    c.write_octets.ensures
    ∙ octets-filled line longest_frame 0 c.requires.1
    ∙ ap (λ (n : ℕ). octets_of line ++ replicate (longest_frame - n) 0) (octets_of-length line)
