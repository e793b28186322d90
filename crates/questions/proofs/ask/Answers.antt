-- `questions::ask` meets its contract: a frame is answered only where all of its room is lent.
-- Assumes nothing.
use Rattle.questions.proofs.Answering.{asked-put}
use Rattle.questions.proofs.Texts.{lent_room-fits}
use lib.Seq.{length-take-le}
use mathlib.Core.Path.{refl, sym}
use native.Mathlib.Omega.{arith}
use Rattle.questions.proofs.ask.Goals as goal

pub slice_bounds-frame-end : goal.slice_bounds-frame-end
slice_bounds-frame-end c = omega (arith, c.lent_room-lent.ensures, lent_room-fits c.args.question.room)

pub slice_bounds-ask-end : goal.slice_bounds-ask-end
slice_bounds-ask-end c =
    sym (length-take-le _ _
    (omega (arith, c.lent_room-lent.ensures, lent_room-fits c.args.question.room)))

pub returns : goal.returns
returns c =
    let ask = c in
    asked-put _ _ _ _ _ _ _ _ _ _ _ ask.lent_room-lent.ensures ask.ask-heartbeat.ensures refl
    c.heartbeat_text.ensures
