-- `read_frames::tell_piece` meets its contract: what is handed over stands behind what was taken before.
-- Assumes nothing.
use mathlib.Core.Path.{sym}
use lib.Seq.{length-take-le}
use Rattle.read_frames.proofs.Turns.{chunk-handed, chunk-turned}
use Rattle.read_frames.proofs.tell_piece.Goals as goal

pub tell_chunk-told-requires : goal.tell_chunk-told-requires
tell_chunk-told-requires c = (c.requires.of_line, c.requires.enough)

pub slice_bounds-hand_told-end-2 : goal.slice_bounds-hand_told-end-2
slice_bounds-hand_told-end-2 c = sym (length-take-le _ _ c.tell_chunk-told.ensures.0)

pub hand_told-ending-requires : goal.hand_told-ending-requires
hand_told-ending-requires c = chunk-handed c.requires _ c.tell_chunk-told.ensures.1

pub returns : goal.returns
returns c =
    chunk-turned c.requires _ c.tell_chunk-told.ensures.1 _ _ _ c.hand_told-ending.ensures c.ended_by.ensures
