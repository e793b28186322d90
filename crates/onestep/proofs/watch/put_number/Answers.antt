-- `onestep::watch::put_number` meets its contract: what is stored is what is read. Assumes nothing.
use Rattle.onestep.proofs.Watched.{told-number}
use Rattle.onestep.proofs.watch.put_number.Goals as goal

pub returns : goal.returns
returns c = let args = c.args in
    told-number args.due.now args.told.now args.next args.number c.told-due
    c.told-told
