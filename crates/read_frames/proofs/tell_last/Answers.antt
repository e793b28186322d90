-- `read_frames::tell_last` meets its contract: at the input's end a line that is held is told.
-- Assumes nothing.
use mathlib.Core.Path.{sym}
use lib.Seq.{length-take-le}
use Rattle.read_frames.proofs.Turns.{end_none, last-handed, last-turned}
use Rattle.read_frames.proofs.tell_last.Goals as goal

pub returns-then-buffered-eq0 : goal.returns-then-buffered-eq0
returns-then-buffered-eq0 c = end_none _ _ _ _ c.requires.1 c.if-buffered-eq0.true

pub slice_bounds-hand_last-end : goal.slice_bounds-hand_last-end
slice_bounds-hand_last-end c = sym (length-take-le _ _ c.held_message-last.ensures.1)

pub hand_last-ending-requires : goal.hand_last-ending-requires
hand_last-ending-requires c =
    last-handed _ _ _ _ c.requires.1 c.if-buffered-eq0.false _ c.held_message-last.ensures.2

pub returns : goal.returns
returns c =
    last-turned _ _ _ _ c.requires.1 c.if-buffered-eq0.false _ c.held_message-last.ensures.2 _ _ c.hand_last-ending.ensures
