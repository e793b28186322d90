-- `verdictlines::tell::push` meets its contract: each way is a law.
-- Assumes nothing.
use mathlib.Core.Path.{◌∙◌}
use Rattle.verdictlines.proofs.StoppedLaws.{stays_same}
use Rattle.verdictlines.proofs.ToldLaws.{told-laws}
use Rattle.verdictlines.proofs.tell.push.Goals as goal
use Rattle.verdictlines.proofs.tell.push.Goals.{then-index-lt-ROOM, else-index-lt-ROOM}

pub returns-then-to-start : goal.returns-then-to-start
returns-then-to-start c = (search told-laws, search told-laws, stays_same _)

pub returns : goal.returns
returns c = (
  search told-laws,
  elim c.if-index-lt-ROOM.branch [
    | then-index-lt-ROOM w ↦ w.room-is ∙ search told-laws
    | else-index-lt-ROOM w ↦ w.room-is ∙ search told-laws
  ],
  c.write_stretch.ensures,
)
