-- `onestep::watch::serve_event` meets its contract: it is the definition, call by call. Assumes nothing.
use Rattle.inplace.specs.Lists.{selector_at}
use Rattle.onestep.specs.Watched.{watch_held, watch_at}
use Rattle.onestep.proofs.Watched.{served-told}
use Rattle.onestep.proofs.watch.serve_event.Goals as goal

pub returns : goal.returns
unfolding watch_at
returns c = let args = c.args in
    let step = c.step_accepted-after in
    let after = selector_at step.new.times step.new.small step.new.wider in
    served-told (selector_at args.times.now args.small.now args.wider.now) after args.next
    c.due_left-later.result
    step.result.number
    step.result.count
    c.answer_at-answer.result
    args.event
    args.read
    (watch_held after c.tell.new.due c.tell.new.told)
    step.ensures
    c.due_left-later.ensures
    c.answer_at-answer.ensures
    (c.tell.ensures after)
