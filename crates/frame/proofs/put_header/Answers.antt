-- `frame::put_header` meets its contract: each row stands behind the one before it. Assumes nothing.
use Prim.Native.Nat.{◌+◌}
use mathlib.Core.List.{append_assoc}
use mathlib.Core.Path.{◌≡◌, refl}
use native.Mathlib.Omega.{arith}
use lib.ListN.{length}
use Rattle.frame.specs.Octets.{protocol, organisation}
use Rattle.frame.specs.Write.{header_octets}
use Rattle.frame.proofs.Rows.{put-row, put_next}
use Rattle.frame.proofs.put_header.Goals as goal

pub returns : goal.returns
unfolding header_octets
returns c =
    let put5 = c in
    let put4 = put5 in
    let put3 = put4 in
    let put2 = put3 in
    let put1 = put2 in
    let start = put1 in
    let buffer = start.args.buffer.now in
    let to6 = put-row buffer _ _ 1 7 put1.put_octets.ensures refl in
    let sized : 7 + length start.args.source.now ≡ 13 = omega arith in
    let to12 = put_next buffer _ _ _ _ 1 7 13 to6 put2.put_octets-2.ensures sized (omega arith) (omega arith) in
    let to20 = put_next buffer _ _ _ _ 1 13 21 to12 put3.put_octets-3.ensures refl (omega arith) (omega arith) in
    let to21 = put_next buffer _ _ _ _ 1 21 22 to20 put4.put_octets-4.ensures refl (omega arith) (omega arith) in
    rw (
      ← put4.octet_21.ensures,
      append_assoc start.args.source.now protocol organisation,
    )
    (put_next buffer _ _ _ _ 1 22 25 to21 put5.put_octets-5.ensures refl (omega arith) (omega arith)).content
