-- `onestep::watch::start_watch` meets its contract. Assumes nothing.
use Rattle.inplace.specs.Lists.{selector_at}
use Rattle.onestep.specs.Watched.{watch_held, watch_at}
use Rattle.onestep.proofs.Watched.{fresh-told}
use Rattle.onestep.proofs.watch.start_watch.Goals as goal

pub returns : goal.returns
unfolding watch_at
returns c = let args = c.args in
    let fresh = c.start in
    let state = selector_at fresh.new.times fresh.new.small fresh.new.wider in
    fresh-told args.profile state c.next_due-next.result c.answer_at-answer.result
    (watch_held state c.tell.new.due c.tell.new.told)
    fresh.ensures
    c.next_due-next.ensures
    c.answer_at-answer.ensures
    (c.tell.ensures state)
