-- `card::make_ranged` meets its contract. Assumes nothing.
use Rattle.inplace.specs.Lists.{selector_at}
use Rattle.onestep.specs.Watched.{watch_at}
use Rattle.card.proofs.CardLaws.{ranged_kept, ranged_anew}
use Rattle.card.proofs.make_ranged.Goals as goal

pub returns-then-is_ranged : goal.returns-then-is_ranged
unfolding watch_at
returns-then-is_ranged c = let args = c.args in
    ranged_kept
    (watch_at args.times.now args.small.now args.wider.now args.due.now args.told.now)
    c.is_ranged.result
    c.is_ranged.ensures
    c.if-is_ranged.true

pub returns : goal.returns
unfolding watch_at
returns c = let args = c.args in
    ranged_anew
    (watch_at args.times.now args.small.now args.wider.now args.due.now args.told.now)
    c.is_ranged.result
    c.is_ranged.ensures
    c.answer_at-answer.result
    (watch_at args.times.now args.small.now args.wider.now c.tell.new.due c.tell.new.told)
    c.if-is_ranged.false
    c.answer_at-answer.ensures
    (c.tell.ensures (selector_at args.times.now args.small.now args.wider.now))
