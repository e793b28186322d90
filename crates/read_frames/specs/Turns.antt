-- What is read, told and handed over, turn after turn, to the program's end. Cited by `src/main.rt`. Assumes nothing.
use Rattle.std.specs.Prelude.{ℕ, ◌*◌, ◌≤◌, List, [], ◌++◌, ◌≡◌, length, drop}
use Rattle.replayer.specs.Chunks.{unended}
use Rattle.calls.specs.Calls.{chunk_octets}
use Rattle.calls.specs.Answered.{GoesOn, TurnEnded, EndedRight}
use Rattle.calls.specs.declared.Ended.{Ended}
use Rattle.read_frames.specs.declared.Turn.{Turn}
use Rattle.read_frames.specs.Frames.{told_so_far, frames_told, longest_frame_line, longest_told, HoldsLine}

-- what is carried on is right after an input: the line that has not ended is held
abbrev pub HeldAfter : List ℕ → ℕ → List ℕ → Type 0
HeldAfter line buffered input = HoldsLine line buffered (unended [] input)

-- the program goes on
abbrev pub FramesGoOn : List ℕ → ℕ → ℕ → ℕ → Type 0
FramesGoOn line buffered read sent = GoesOn told_so_far (HeldAfter line buffered) read sent

-- the buffers: of a chunk, of a line, and of what a chunk is told in
pub record FramesRoom (chunk line out : List ℕ) : Type 0 where
  pub of_chunk : length chunk ≡ chunk_octets
  pub of_line : length line ≡ longest_frame_line
  pub of_out : length out ≡ longest_told * chunk_octets

-- a chunk was read, and all that the input before it says was taken
pub record PieceRead (chunk line out : List ℕ) (buffered read sent : ℕ) : Type 0 where
  pub of_line : length line ≡ longest_frame_line
  pub enough : longest_told * length chunk ≤ length out
  pub earlier : List ℕ
  pub held : HeldAfter line buffered earlier
  pub count : read ≡ length (earlier ++ chunk)
  pub taken : sent ≡ length (told_so_far earlier)

-- what is handed over after a chunk: what an input says that ends with it, from where the last call stopped
abbrev pub NextTold : List ℕ → ℕ → List ℕ → Type 0
NextTold chunk sent text = (earlier : List ℕ) × (text ≡ drop sent (told_so_far (earlier ++ chunk)))

-- what is handed over at the input's end: what the whole input says, from where the last call stopped
pub record LastTold (line : List ℕ) (buffered sent : ℕ) (text : List ℕ) : Type 0 where
  pub input : List ℕ
  pub held : HeldAfter line buffered input
  pub octets : text ≡ drop sent (frames_told input)

-- what a turn came to
abbrev pub FramesTurned : List ℕ → ℕ → ℕ → Turn → Type 0
FramesTurned line read sent turn =
    TurnEnded told_so_far frames_told (HeldAfter line turn.buffered) read sent turn.ended

-- what the program writes is right, however it ends
abbrev pub FramesRight : Ended → Type 0
FramesRight ended = EndedRight told_so_far frames_told ended
