-- `frame::put_octets` meets its contract: the buffer holds what has been put of the row. Assumes nothing.
use mathlib.Core.Path.{◌≡◌, ap, ◌∙◌}
use native.Mathlib.Omega.{arith}
use lib.ListN.{length}
use lib.Seq.{paste}
use Rattle.frame.specs.Write.{put_octets}
use Rattle.frame.proofs.Rows.{paste_put}
use Rattle.frame.proofs.put_octets.Goals as goal

pub loop-put-preserved : goal.loop-put-preserved
loop-put-preserved c =
    let args = c.args in
    paste_put args.buffer.now args.row.now _ _ _ c.requires.1 (omega arith) c.loop-put.invariant

pub returns : goal.returns
unfolding put_octets
returns c =
    let all : c.loop-put.put ≡ length c.args.row.now = omega arith in
    c.loop-put.invariant ∙ ap (paste c.args.buffer.now _ c.args.row.now) all
