-- Laws of writing, one for each way through.
-- Assumes nothing.
use Prim.Native.Nat.{ℕ, ◌+◌, ◌≤◌, ◌<◌}
use mathlib.Core.Bool.{Bool, true, false, cond, not}
use mathlib.Core.List.{List, ◌++◌}
use Rattle.std.proofs.Common.{Ok, Err}
use mathlib.Core.Path.{◌≡◌, refl, sym, ◌∙◌}
use native.Mathlib.Omega.{arith}
use lib.Dec.{eqb, ltb}
use lib.ListN.{length, drop, length-append}
use borrow.Author.Tests.{eq-eqb, ne_eqb, lt-ltb, le-ltb, eqb-true, ltb-false}
use Rattle.frame.proofs.Rows.{put-row, put_next, put_octets-front}
use Rattle.numbers.specs.Refusal.{argument_out_of_range, buffer_too_short, source_not_six}
use Rattle.frame.specs.Write.{Writing, written_length, source_length, largest_code, header_octets, data_octets, frame_octets, put_octets, write_answer, WriteFrame}

-- ---- write_answer

refused-written : (number : ℕ) → ◌≡◌ {A = Writing} (Err number) (Ok tt) → ⊥
refused-written number equal = cc

module _ (buffer source : List ℕ) (code : ℕ) where
  pub write_answer-code : largest_code < code → write_answer buffer source code ≡ Err argument_out_of_range
  unfolding write_answer
  write_answer-code above = rw (lt-ltb _ _ above)

  pub write_answer-source :
      code ≤ largest_code
      → (length source ≡ source_length → ⊥)
      → write_answer buffer source code ≡ Err source_not_six
  unfolding write_answer
  write_answer-source fits other = rw (le-ltb _ _ fits, ne_eqb _ _ other)

  pub write_answer-buffer :
      code ≤ largest_code
      → length source ≡ source_length
      → length buffer < written_length
      → write_answer buffer source code ≡ Err buffer_too_short
  unfolding write_answer
  write_answer-buffer fits six short = rw (le-ltb _ _ fits, eq-eqb _ _ six, lt-ltb _ _ short)

  pub write_answer-written :
      code ≤ largest_code
      → length source ≡ source_length
      → written_length ≤ length buffer
      → write_answer buffer source code ≡ Ok tt
  unfolding write_answer
  write_answer-written fits six long = rw (le-ltb _ _ fits, eq-eqb _ _ six, le-ltb _ _ long)

  -- what is written had a code, a source and room
  pub record Room : Type 0 where
    pub fits : code ≤ largest_code
    pub six : length source ≡ source_length
    pub long : written_length ≤ length buffer

  pub write_answer-room : write_answer buffer source code ≡ Ok tt → Room
  unfolding write_answer
  write_answer-room =
      go (ltb largest_code code) (eqb (length source) source_length) (ltb (length buffer) written_length) refl refl refl
    where
      go :
          (above six short : Bool) → ltb largest_code code ≡ above
          → eqb (length source) source_length ≡ six
          → ltb (length buffer) written_length ≡ short
          → ◌≡◌ {A = Writing} (cond above (Err argument_out_of_range)
          (cond (not six) (Err source_not_six)
          (cond short (Err buffer_too_short)
          (Ok tt)))) (Ok tt)
          → Room
      go true _ _ _ _ _ answer = absurd (refused-written _ answer)
      go false false _ _ _ _ answer = absurd (refused-written _ answer)
      go false true true _ _ _ answer = absurd (refused-written _ answer)
      go false true false fits six long _ =
          record { fits = ltb-false _ _ fits; six = eqb-true _ _ six; long = ltb-false _ _ long }

-- ---- WriteFrame

module _ (before source : List ℕ) (event : Bool) (code : ℕ) where
  pub write_frame_written :
      (after : List ℕ) → write_answer before source code ≡ Ok tt
      → after ≡ frame_octets source event code ++ drop written_length before
      → WriteFrame before source event code (Ok tt) after
  write_frame_written after answer content = record { answered = sym answer; content = rw answer content }

  -- the promise admits one answer and one content
  pub write_frame_unique :
      (one other : Writing) (after later : List ℕ) → WriteFrame before source event code one after
      → WriteFrame before source event code other later
      → (one ≡ other) × (after ≡ later)
  write_frame_unique one other after later first second =
      (first.answered ∙ sym second.answered, first.content ∙ sym second.content)

-- ---- the octets written

header_octets-reached :
    (source : List ℕ) (event : Bool) → length source ≡ source_length → 1 + length (header_octets source event) ≡ 25
unfolding header_octets
header_octets-reached source event six = simp length-append (omega arith)

data_octets-reached : (code : ℕ) → 25 + length (data_octets code) ≡ 61
unfolding data_octets
data_octets-reached code = refl

pub frame_octets-length :
    (source : List ℕ) (event : Bool) (code : ℕ) → length source ≡ source_length
    → length (frame_octets source event code) ≡ written_length
unfolding frame_octets header_octets data_octets
frame_octets-length source event code six = simp length-append (omega arith)

-- header and data put one behind the other are the sixty octets in front
pub frame_octets-put :
    (before source buffer after : List ℕ) (event : Bool) (code : ℕ) → length source ≡ source_length
    → written_length ≤ length before
    → buffer ≡ put_octets before 1 (header_octets source event)
    → after ≡ put_octets buffer 25 (data_octets code)
    → after ≡ frame_octets source event code ++ drop written_length before
unfolding frame_octets
frame_octets-put before source buffer after event code six long header data-put =
    let to24 = put-row before _ _ 1 25 header (header_octets-reached source event six) in
    (put_next before _ _ _ _ 1 25 61 to24 data-put (data_octets-reached code) (omega arith) (omega arith)).content
    ∙ put_octets-front before (header_octets source event ++ data_octets code)
    ∙ rw (frame_octets-length source event code six)
