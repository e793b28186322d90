-- Document 02, L2, as its readings have the program `read_frames`: what is told, and what is held of a line.
-- Cited by `src/main.rt`. Assumes nothing.
use Rattle.std.specs.Prelude.{ℕ, ◌≤◌, ◌%◌, cond, List, [], ◌∷◌, ◌++◌, ◌≡◌, eqb, leb, length, take}
use Rattle.digits.specs.Digits.{is_digit, all_digits}
use Rattle.reader.specs.Lines.{line_feed, lines_of}
use Rattle.frametext.specs.Message.{frame_line_text}
use Rattle.replayer.specs.Chunks.{ended_lines, unended}
use Rattle.text.specs.PutAt.{Put}
use Rattle.read_frames.specs.declared.Told.{Told}

-- ---- what is told

-- what is printed for a line, and LF
abbrev pub frame_line_told : List ℕ → List ℕ
frame_line_told line = frame_line_text line ++ (line_feed ∷ [])

-- what is printed for lines, one after the other
unfoldable pub told_of : List (List ℕ) → List ℕ
told_of [] = []
told_of (line ∷ lines) = frame_line_told line ++ told_of lines

-- "frames as digits, one a line": what is printed for an input
abbrev pub frames_told : List ℕ → List ℕ
frames_told input = told_of (lines_of input)

-- what is printed for the lines that have ended in an input
unfoldable pub told_so_far : List ℕ → List ℕ
told_so_far input = told_of (ended_lines [] input)

-- what is printed for a line has at most 20 characters
abbrev pub longest_told : ℕ
longest_told = 20

-- ---- what is held of a line that has not ended

-- two digits for each of the 1,514 octets that a frame may have
abbrev pub longest_frame_line : ℕ
longest_frame_line = 3028

-- of a longer line: whether all are digits, and whether their number is even
unfoldable pub held_long : List ℕ → ℕ
held_long line = cond (all_digits line) (cond (eqb (length line % 2) 0) 3030 3029) 3031

-- the number that is held with a line
unfoldable pub held_of : List ℕ → ℕ
held_of line = cond (leb (length line) longest_frame_line) (length line) (held_long line)

-- the number after one character more, where the line buffer is full or a longer line is held
abbrev pub held_long_after : List ℕ → ℕ → ℕ → ℕ
held_long_after buffer buffered character =
    cond (is_digit character)
    (cond (eqb buffered longest_frame_line) (cond (all_digits buffer) 3029 3031)
    (cond (eqb buffered 3029) 3030
    (cond (eqb buffered 3030) 3029
    3031)))
    3031

-- the line buffer and the number hold a line
pub record HoldsLine (buffer : List ℕ) (buffered : ℕ) (line : List ℕ) : Type 0 where
  pub count : buffered ≡ held_of line
  pub front : length line ≤ longest_frame_line → line ≡ take buffered buffer

-- ---- what a chunk is told in

-- a character was taken of a line of which some had come: LF has the line told from a place of `out`, any other is held
pub record ToldOne (come : List ℕ) (character written : ℕ) (buffer out outAfter : List ℕ) (told : Told) : Type 0 where
  pub ended : character ≡ line_feed
      → (told.buffered ≡ 0) × Put (frame_line_told come) written out told.written outAfter
  pub kept : (character ≡ line_feed → ⊥) → (told.written ≡ written) × (outAfter ≡ out)
  pub holds : (character ≡ line_feed → ⊥) → HoldsLine buffer told.buffered (come ++ (character ∷ []))

-- a chunk was told, a line of which some characters had come before: what its lines say stands in front of `out`, and
-- the line that has not ended is held
pub record ToldChunk (come chunk buffer out : List ℕ) (told : Told) : Type 0 where
  pub holds : HoldsLine buffer told.buffered (unended come chunk)
  pub text : take told.written out ≡ told_of (ended_lines come chunk)
  pub size : told.written ≡ length (told_of (ended_lines come chunk))
