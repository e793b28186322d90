-- `frame::has_version_and_tlv` meets its contract.
-- Assumes nothing.
use native.Mathlib.Omega.{arith}
use Rattle.frame.proofs.Header.{version_and_tlv}
use Rattle.frame.proofs.has_version_and_tlv.Goals as goal

pub returns : goal.returns
returns c =
    let masks = c in
    let found = masks in
    let known = found in
    rw (found.eight_octets.ensures, masks.eight_octets-2.ensures, c.eight_octets-3.ensures)
    (version_and_tlv known.args.frame.now (omega arith) known.shared_slice_known-1.given)
