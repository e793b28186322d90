-- One turn after another: what a chunk says stands behind what was taken before. Assumes nothing.
use Prim.Native.Nat.{ℕ, ◌≤◌}
use mathlib.Core.Bool.{Bool, false}
use mathlib.Core.List.{List, [], ◌++◌, append-nil, append_assoc}
use mathlib.Core.Path.{◌≡◌, refl, sym, ap, subst, ◌∙◌}
use native.Mathlib.Omega.{arith}
use lib.ListN.{length, take, drop, length-append}
use lib.Seq.{length-take-le, drop-append_seam}
use Rattle.reader.specs.Lines.{last_line, lines_of}
use Rattle.replayer.specs.Chunks.{ended_lines, unended}
use Rattle.replayer.proofs.Ended.{unended-append, ended_lines-append, lines_after-ended}
use Rattle.frametext.specs.declared.MessageLine.{MessageLine}
use Rattle.frametext.specs.Message.{message_line}
use Rattle.calls.specs.declared.Ending.{Ending}
use Rattle.calls.specs.declared.Ending.TheVariants.{Whole}
use Rattle.calls.specs.declared.Ended.{Ended}
use Rattle.calls.specs.declared.Failure.{Failure}
use Rattle.std.specs.Prelude.{Option, Some, Result}
use Rattle.calls.specs.Calls.{is_whole, ended_by, read_ending, octets_moved, Delivered, TextTaken}
use Rattle.calls.specs.Answered.{Begins, Answered}
use Rattle.calls.proofs.CallsLaws.{text-all}
use Rattle.calls.proofs.Answered.{piece-within, piece-count, piece-none, turn-unread, turn-taken, turn_last, ended-right}
use Rattle.read_frames.specs.declared.Told.{Told}
use Rattle.read_frames.specs.Frames.{told_of, told_so_far, frames_told, HoldsLine, ToldChunk}
use Rattle.read_frames.specs.Turns.{FramesGoOn, FramesRoom, PieceRead, NextTold, LastTold, FramesTurned, FramesRight}
use Rattle.read_frames.proofs.Lines.{holds-none, told_of-append, told_of-last, told_of-nothing, told_text_lem, held-empty, held-some}

-- ---- what an input says so far, and what follows

so_far_append : (input chunk : List ℕ)
    → told_so_far (input ++ chunk) ≡ told_so_far input ++ told_of (ended_lines (unended [] input) chunk)
unfolding told_so_far
so_far_append input chunk =
    ap told_of (ended_lines-append [] input chunk)
    ∙ told_of-append (ended_lines [] input) (ended_lines (unended [] input) chunk)

whole_append : (input : List ℕ) → frames_told input ≡ told_so_far input ++ told_of (last_line (unended [] input))
unfolding told_so_far lines_of
whole_append input =
    ap told_of (lines_after-ended [] input) ∙ told_of-append (ended_lines [] input) (last_line (unended [] input))

-- whatever follows
so_far_stays : (input more : List ℕ) → Begins (told_so_far input) (frames_told (input ++ more))
so_far_stays input more =
    let rest = told_of (ended_lines (unended [] input) more) in
    let last = told_of (last_line (unended [] (input ++ more))) in (
      rest ++ last,
      (
          whole_append (input ++ more)
          ∙ ap (λ (text : List ℕ). text ++ last) (so_far_append input more)
          ∙ append_assoc (told_so_far input) rest last
          ),
    )

-- WHAT THE PROGRAM WRITES IS RIGHT, however it ends.
pub frames-right : (ended : Ended) → Answered told_so_far frames_told ended → FramesRight ended
frames-right ended answered = ended-right told_so_far frames_told so_far_stays ended answered

behind : (front text whole : List ℕ) (sent : ℕ) → sent ≡ length front → whole ≡ front ++ text → text ≡ drop sent whole
behind front text whole sent is split = rw (is, split) (sym (drop-append_seam front text))

-- ---- a chunk is read

module _ (line : List ℕ) (buffered read sent : ℕ) (goes : FramesGoOn line buffered read sent)
    (earlier chunk out : List ℕ) (room : FramesRoom earlier line out) (same : length chunk ≡ length earlier)
    (count after : ℕ) (outcome : Result ℕ Failure) (delivered : Delivered (length chunk) read outcome after)
    (moved : count ≡ octets_moved outcome) where
  pub read-within : count ≤ length chunk
  read-within = piece-within goes.input chunk count read after outcome goes.count delivered moved

  pub read-piece : PieceRead (take count chunk) line out buffered after sent
  read-piece =
      record {
        of_line = room.of_line;
        enough = omega (arith, room.of_chunk, room.of_out, same, length-take-le count chunk read-within, read-within);
        earlier = goes.input;
        held = goes.carried;
        count = piece-count goes.input chunk count read after outcome goes.count delivered moved;
        taken = goes.taken;
      }

  pub read_none : count ≡ 0 → FramesGoOn line buffered after sent
  read_none none =
      record {
        input = goes.input;
        carried = goes.carried;
        count =
            piece-none goes.input chunk count read after outcome goes.count delivered moved none
            ∙ ap length (append-nil goes.input);
        taken = goes.taken;
      }

-- ---- a chunk

module _ {chunk line out : List ℕ} {buffered read sent : ℕ} (piece : PieceRead chunk line out buffered read sent)
    {line_after outAfter : List ℕ} (told : Told)
    (tells : (come : List ℕ) → HoldsLine line buffered come → ToldChunk come chunk line_after outAfter told) where
  chunk_tells : ToldChunk (unended [] piece.earlier) chunk line_after outAfter told
  chunk_tells = tells (unended [] piece.earlier) piece.held

  chunk-told : told_so_far (piece.earlier ++ chunk) ≡ told_so_far piece.earlier ++ take told.written outAfter
  chunk-told =
      so_far_append piece.earlier chunk
      ∙ ap (λ (text : List ℕ). told_so_far piece.earlier ++ text) (sym chunk_tells.text)

  pub chunk-handed : NextTold chunk sent (take told.written outAfter)
  chunk-handed = (piece.earlier, behind (told_so_far piece.earlier) _ _ _ piece.taken chunk-told)

  pub chunk-turned : (after : ℕ) (ending : Ending) (ended : Option Ending)
      → TextTaken (length (take told.written outAfter)) sent ending after
      → ended ≡ ended_by ending
      → FramesTurned line_after read after (record { buffered = told.buffered; ended = ended })
  chunk-turned after ending ended over is =
      turn-taken (piece.earlier ++ chunk) (take told.written outAfter) sent read after ending piece.count over
      ended is
      (omega (
        arith,
        piece.taken,
        ap length chunk-told,
        length-append (told_so_far piece.earlier) (take told.written outAfter),
      ))
      (subst (λ (held : List ℕ). HoldsLine line_after told.buffered held)
      (sym (unended-append [] piece.earlier chunk))
      chunk_tells.holds)

-- ---- the input's end

module _ (line : List ℕ) (buffered read sent : ℕ) (goes : FramesGoOn line buffered read sent) where
  -- a read failed
  pub end-unread : (outcome : Result ℕ Failure) (ending : Ending) → ending ≡ read_ending outcome → is_whole ending ≡ false
      → FramesTurned line read sent (record { buffered = buffered; ended = Some ending })
  end-unread outcome ending is ends = turn-unread read sent outcome ending goes is ends

  -- no line is held
  pub end_none : buffered ≡ 0
      → FramesTurned line read sent (record { buffered = buffered; ended = Some Whole })
  end_none none =
      let empty : unended [] goes.input ≡ [] = held-empty goes.carried none in
      let whole : frames_told goes.input ≡ told_so_far goes.input =
      whole_append goes.input
      ∙ ap (λ (line : List ℕ). told_so_far goes.input ++ told_of (last_line line)) empty
      ∙ ap (λ (text : List ℕ). told_so_far goes.input ++ text) told_of-nothing
      ∙ append-nil (told_so_far goes.input) in
      turn_last goes.input [] sent read sent Whole goes.count (rest-none sent)
      (omega (arith, goes.taken, ap length whole))
    where
      rest-none : (before : ℕ) → TextTaken 0 before Whole before
      rest-none before = text-all 0 before before Whole (omega arith) refl

  -- a line is held
  module _ (some : buffered ≡ 0 → ⊥) (message : MessageLine)
      (is : (come : List ℕ) → HoldsLine line buffered come → message ≡ message_line come) where
    last-told : frames_told goes.input ≡ told_so_far goes.input ++ take message.length message.text
    last-told =
        whole_append goes.input
        ∙ ap (λ (text : List ℕ). told_so_far goes.input ++ text)
        (told_of-last (unended [] goes.input) (held-some goes.carried some)
        ∙ sym (told_text_lem (unended [] goes.input) (is (unended [] goes.input) goes.carried)))

    pub last-handed : LastTold line buffered sent (take message.length message.text)
    last-handed =
        record {
          input = goes.input;
          held = goes.carried;
          octets = behind (told_so_far goes.input) _ _ _ goes.taken last-told;
        }

    pub last-turned : (after : ℕ) (ending : Ending)
        → TextTaken (length (take message.length message.text)) sent ending after
        → FramesTurned line read after (record { buffered = buffered; ended = Some ending })
    last-turned after ending over =
        turn_last goes.input (take message.length message.text) sent read after ending goes.count over
        (omega (
          arith,
          goes.taken,
          ap length last-told,
          length-append (told_so_far goes.input) (take message.length message.text),
        ))

-- ---- the start

pub frames_start : (line : List ℕ) → FramesGoOn line 0 0 0
unfolding told_so_far ended_lines unended told_of
frames_start line = record { input = []; carried = holds-none line; count = refl; taken = refl }
