-- `inplace::put_run` meets its contract. Assumes nothing.
use Rattle.inplace.proofs.Columns.{run_stored}
use Rattle.inplace.proofs.put_run.Goals as goal

pub returns : goal.returns
returns c = let args = c.args in λ wider.
    run_stored args.times.now args.small.now wider args.at args.run c.requires
    c.told-times c.told-small
