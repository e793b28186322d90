-- `inplace::next_due` meets its contract. Assumes nothing.
use Rattle.due.proofs.DueLaws.{nextAmong-laws}
use Rattle.inplace.proofs.Turn.{due-turn, due-done}
use Rattle.inplace.proofs.next_due.Goals as goal

pub loop-at-init : goal.loop-at-init
loop-at-init c = search nextAmong-laws

pub loop-at-preserved : goal.loop-at-preserved
loop-at-preserved c = search due-turn

pub returns : goal.returns
returns c =
    let args = c.args in
    due-done args.times.now args.small.now args.wider.now _ _ _ _ c.loop-at.invariant
    (c.mode_at-mode.ensures args.times.now args.wider.now)
    (c.time_at-time.ensures args.small.now args.wider.now)
    c.loop-at.auto.at-end
    c.loop-at-test.false
