-- `frame::read_code` meets its contract. Assumes nothing.
use mathlib.Core.Path.{sym, ◌∙◌}
use native.Mathlib.Omega.{arith}
use Rattle.frame.proofs.ReadLaws.{frame_number-accepted}
use Rattle.frame.proofs.read_code.Goals as goal

pub octet-requires : goal.octet-requires
octet-requires c =
    let long = frame_number-accepted _ (sym c.frame_number-number.ensures ∙ c.if-number-ne-ACCEPTED.false) in
    (omega arith, omega arith)
