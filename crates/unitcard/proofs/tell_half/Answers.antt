-- `unitcard::tell_half` meets its contract: it is the definition, call by call. Assumes nothing.
use Rattle.inplace.specs.Lists.{selector_at}
use Rattle.onestep.specs.Watched.{watch_held, watch_at}
use Rattle.unitcard.proofs.UnitcardLaws.{half-told}
use Rattle.unitcard.proofs.tell_half.Goals as goal

pub returns : goal.returns
unfolding watch_at
returns c =
    let args = c.args in
    let state = selector_at args.times.now args.small.now args.wider.now in
    half-told args.number state c.next_due-next.result c.answer_at-answer.result
    (watch_held state c.tell.new.due c.tell.new.told)
    c.next_due-next.ensures
    c.answer_at-answer.ensures
    (c.tell.ensures state)
