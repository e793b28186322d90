-- `read_frames::tell_chunk` meets its contract: what was taken of the chunk is told.
-- Assumes nothing.
use Prim.Native.Nat.{ℕ, ◌*◌, ◌≤◌}
use mathlib.Core.List.{List}
use mathlib.Core.Path.{◌≡◌}
use lib.ListN.{length, take}
use Rattle.read_frames.specs.Frames.{longest_told, longest_frame_line, HoldsLine, ToldChunk}
use Rattle.read_frames.proofs.tell_chunk.Given as goal

abbrev pub invariant-loop-character : goal.invariant-loop-character
invariant-loop-character l =
    (length l.line ≡ longest_frame_line)
    × (length l.out ≡ length l.initial.out)
    × (l.told.written ≤ longest_told * l.character-index)
    × ((come : List ℕ) → HoldsLine l.initial.line l.buffered come
    → ToldChunk come (take l.character-index l.chunk) l.line l.out l.told)
