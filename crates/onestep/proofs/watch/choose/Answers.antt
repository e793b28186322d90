-- `onestep::watch::choose` meets its contract: it is the definition, call by call. Assumes nothing.
use Rattle.inplace.specs.Lists.{selector_at}
use Rattle.onestep.specs.Watched.{watch_held, watch_at}
use Rattle.onestep.proofs.Watched.{chosen-told}
use Rattle.onestep.proofs.watch.choose.Goals as goal

pub returns : goal.returns
unfolding watch_at
returns c = let args = c.args in
    let after = selector_at args.times.now c.make_choice.new.small args.wider.now in
    chosen-told (selector_at args.times.now args.small.now args.wider.now) after args.next args.number
    c.answer_at-answer.result
    (watch_held after c.tell.new.due c.tell.new.told)
    c.make_choice.ensures
    c.answer_at-answer.ensures
    (c.tell.ensures after)
