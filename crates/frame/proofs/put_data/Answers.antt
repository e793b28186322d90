-- `frame::put_data` meets its contract: each row stands behind the one before it. Assumes nothing.
use mathlib.Core.Path.{refl}
use native.Mathlib.Omega.{arith}
use Rattle.frame.specs.Write.{data_octets}
use Rattle.frame.proofs.Rows.{put-row, put_next}
use Rattle.frame.proofs.put_data.Goals as goal

pub returns : goal.returns
unfolding data_octets
returns c =
    let put3 = c in
    let put2 = put3 in
    let put1 = put2 in
    let start = put1 in
    let buffer = start.args.buffer.now in
    let to27 = put-row buffer _ _ 25 28 put1.put_octets.ensures refl in
    let to28 = put_next buffer _ _ _ _ 25 28 29 to27 put2.put_octets-2.ensures refl (omega arith) (omega arith) in
    (put_next buffer _ _ _ _ 25 29 61 to28 put3.put_octets-3.ensures refl (omega arith) (omega arith)).content
