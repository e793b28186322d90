-- `onestep::watch::tell` meets its contract: what is stored is what is read. Assumes nothing.
use Rattle.onestep.proofs.Watched.{told-answer}
use Rattle.onestep.proofs.watch.tell.Goals as goal

pub returns : goal.returns
returns c = let args = c.args in
    told-answer args.due.now args.told.now args.next args.answer args.count
    c.told-due
    c.told-told
