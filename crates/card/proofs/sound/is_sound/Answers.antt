-- `card::sound::is_sound` meets its contract. Assumes nothing.
use Rattle.inplace.specs.Lists.{selector_at}
use Rattle.onestep.specs.Watched.{watch_at}
use Rattle.card.proofs.Same.{sound-told}
use Rattle.card.proofs.sound.is_sound.Goals as goal

pub returns : goal.returns
unfolding watch_at
returns c = let args = c.args in
    let again = c.serve in
    sound-told
    (watch_at args.times.now args.small.now args.wider.now args.due.now args.told.now)
    c.time_at-time.result
    c.next_due-next.result
    again.result
    c.answer_at-answer.result
    (selector_at again.new.times again.new.small args.wider.now)
    c.same_runs-runs.result
    c.same_once-once.result
    c.same_answer-told_right.result
    (c.time_at-time.ensures args.small.now args.wider.now)
    c.next_due-next.ensures
    c.answer_at-answer.ensures
    again.ensures
    c.same_runs-runs.ensures
    (c.same_once-once.ensures args.times.now again.new.times args.wider.now)
    c.same_answer-told_right.ensures
