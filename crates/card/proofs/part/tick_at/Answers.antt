-- `card::part::tick_at` meets its contract. Assumes nothing.
use Rattle.onestep.specs.Watched.{watch_at}
use Rattle.card.proofs.Portions.{tick_called}
use Rattle.card.proofs.part.tick_at.Goals as goal

pub returns : goal.returns
returns c = let args = c.args in
    let ranged = c.make_ranged in
    let all = c.step_watch.new in
    tick_called
    (watch_at args.times.now args.small.now args.wider.now args.due.now args.told.now)
    (watch_at args.times.now args.small.now args.wider.now ranged.new.due ranged.new.told)
    (watch_at all.times all.small all.wider all.due all.told)
    args.time
    ranged.ensures
    c.step_watch.ensures.0
