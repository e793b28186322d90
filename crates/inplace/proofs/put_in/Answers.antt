-- `inplace::put_in` meets its contract. Assumes nothing.
use native.Mathlib.Nat.{add-zero}
use Rattle.inplace.proofs.Columns.{input-stored}
use Rattle.inplace.proofs.put_in.Goals as goal

pub returns : goal.returns
returns c = let args = c.args in
    rw (add-zero args.at) at
    (input-stored args.times.now args.small.now args.wider.now args.at args.input
    c.kind_argument.result
    c.requires
    c.told-times
    c.told-small
    c.told-wider
    c.kind_argument.ensures)
