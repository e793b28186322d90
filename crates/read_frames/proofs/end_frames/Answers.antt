-- `read_frames::end_frames` meets its contract: after a read that failed nothing more is told.
-- Assumes nothing.
use mathlib.Core.Path.{sym, ◌∙◌}
use Rattle.read_frames.proofs.Turns.{end-unread}
use Rattle.read_frames.proofs.end_frames.Goals as goal

pub returns-then-not-is_whole : goal.returns-then-not-is_whole
returns-then-not-is_whole c =
    end-unread _ _ _ _ c.requires.1 c.args.outcome _ c.read_ending-ending.ensures
    (sym c.is_whole.ensures ∙ c.if-not-is_whole.true)

pub tell_last-requires : goal.tell_last-requires
tell_last-requires c = c.requires

pub returns : goal.returns
returns c = c.tell_last.ensures
