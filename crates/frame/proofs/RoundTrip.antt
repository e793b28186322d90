-- DEMAND 2 for frames: what is written holds what the document says and reads back.
-- Assumes nothing.
use Prim.Native.Nat.{ℕ, ◌-◌, ◌/◌, ◌%◌, ◌≤◌, ◌<◌}
use mathlib.Core.Bool.{Bool, true, false, cond}
use mathlib.Core.List.{List, [], ◌∷◌, ◌++◌}
use mathlib.Core.Path.{◌≡◌, refl, sym, ap, ◌∙◌}
use native.Mathlib.Nat.{mod-eq_of_lt}
use native.Mathlib.Omega.{arith}
use lib.Dec.{eqb}
use lib.ListN.{length, get_or, take, drop, length-append}
use lib.Seq.{take_at, take-take, get_or-take, length-take-le}
use Rattle.std.proofs.Common.{Ok}
use Rattle.numbers.specs.Rows.{first_that_applies}
use Rattle.frame.specs.declared.FrameRead.TheVariants.{Code}
use Rattle.frame.specs.Octets.{longest_frame, version, event_bit, same, octet, octets, upper_half, lower_half}
use Rattle.frame.specs.Read.{right_length, right_destination, right_protocol, right_organisation, right_version, right_tlv, frame_number, message, read_frame}
use Rattle.frame.specs.Write.{Writing, written_length, source_length, largest_code, octet21, header_octets, data_octets, frame_octets, write_answer, WriteFrame}
use Rattle.frame.specs.Demand1.{AlikeThroughout}
use Rattle.frame.specs.RoundTrip.{Layout, RoundTrip}
use Rattle.frame.proofs.ReadLaws.{right_length-right}
use Rattle.frame.proofs.WriteLaws.{write_answer-written, Room, write_answer-room, frame_octets-length}
use Rattle.frame.proofs.Demand1.{read_frame-alike}

-- ---- octet21

octet21-upper : (event : Bool) → upper_half (octet21 event) ≡ version
octet21-upper true = refl
octet21-upper false = refl

octet21-lower : (event : Bool) → lower_half (octet21 event) ≡ cond event event_bit 0
octet21-lower true = refl
octet21-lower false = refl

-- ---- frame_octets

-- a list of six is its six elements
six : (source : List ℕ) → length source ≡ source_length
    → source
    ≡ get_or source 0 0 ∷ get_or source 1 0 ∷ get_or source 2 0 ∷ get_or source 3 0 ∷ get_or source 4 0 ∷ get_or source 5 0 ∷ []
six [] size = absurd (omega arith)
six (a ∷ []) size = absurd (omega arith)
six (a ∷ b ∷ []) size = absurd (omega arith)
six (a ∷ b ∷ c ∷ []) size = absurd (omega arith)
six (a ∷ b ∷ c ∷ d ∷ []) size = absurd (omega arith)
six (a ∷ b ∷ c ∷ d ∷ e ∷ []) size = absurd (omega arith)
six (a ∷ b ∷ c ∷ d ∷ e ∷ f ∷ []) size = refl
six (a ∷ b ∷ c ∷ d ∷ e ∷ f ∷ g ∷ rest) size = absurd (omega arith)

module _ (a b c d e f : ℕ) (code : ℕ) where
  frame_octets-read-six : (event : Bool) → code < 16
      → read_frame (frame_octets (a ∷ b ∷ c ∷ d ∷ e ∷ f ∷ []) event code)
      ≡ message (Code code) event (a ∷ b ∷ c ∷ d ∷ e ∷ f ∷ [])
  unfolding
      read_frame frame_number first_that_applies
      right_length right_destination right_protocol right_organisation right_version right_tlv same
      frame_octets header_octets data_octets
  frame_octets-read-six true fits =
      ap (λ (told : ℕ). message (Code told) true (a ∷ b ∷ c ∷ d ∷ e ∷ f ∷ [])) (mod-eq_of_lt fits)
  frame_octets-read-six false fits =
      ap (λ (told : ℕ). message (Code told) false (a ∷ b ∷ c ∷ d ∷ e ∷ f ∷ [])) (mod-eq_of_lt fits)

  frame_octets-layout-six : (event : Bool)
      → Layout (frame_octets (a ∷ b ∷ c ∷ d ∷ e ∷ f ∷ []) event code) (a ∷ b ∷ c ∷ d ∷ e ∷ f ∷ []) event code
  unfolding frame_octets header_octets data_octets
  frame_octets-layout-six event =
      record {
        size = refl;
        to6 = refl;
        to12 = refl;
        to14 = refl;
        at15 = refl;
        to18 = refl;
        to20 = refl;
        upper21 = octet21-upper event;
        lower21 = octet21-lower event;
        to24 = refl;
        at25 = refl;
        to27 = refl;
        at28 = refl;
        to60 = refl;
      }

module _ (source : List ℕ) (event : Bool) (code : ℕ) (size : length source ≡ source_length) where
  pub frame_octets-read : code ≤ largest_code
      → read_frame (frame_octets source event code) ≡ message (Code code) event source
  frame_octets-read fits = rw (six source size) (frame_octets-read-six _ _ _ _ _ _ code event (omega arith))

  pub frame_octets-layout : Layout (frame_octets source event code) source event code
  frame_octets-layout = rw (six source size) (frame_octets-layout-six _ _ _ _ _ _ code event)

-- ---- a longer frame

module _ (frame : List ℕ) where
  octets-take :
      (first final : ℕ) → final ≤ written_length
      → octets frame first final ≡ octets (take written_length frame) first final
  octets-take first final inside = rw (take-take final written_length frame)

  octet-take : (number : ℕ) → number - 1 < written_length → octet frame number ≡ octet (take written_length frame) number
  octet-take number inside = rw (get_or-take written_length frame (number - 1) 0)

  -- the first sixty octets of a frame read as all of it
  take-alike : written_length ≤ length frame → length frame ≤ longest_frame
      → AlikeThroughout frame (take written_length frame)
  take-alike long fits =
      let size = length-take-le written_length frame long in
      record {
        alike =
            record {
              lengths =
                  right_length-right frame long fits
                  ∙ sym (right_length-right (take written_length frame) (omega arith) (omega arith));
              destination = octets-take 1 6 (omega arith);
              protocol = octets-take 13 15 (omega arith);
              organisation = octets-take 16 20 (omega arith);
              version = ap upper_half (octet-take 21 (omega arith));
              tlv = octets-take 25 27 (omega arith);
              code = ap lower_half (octet-take 28 (omega arith));
            };
        source = octets-take 7 12 (omega arith);
        event = ap (λ (value : ℕ). eqb (value / event_bit % 2) 1) (octet-take 21 (omega arith));
      }

-- DEMAND 2: whatever is written reads back, and whatever can be written is.
pub demand_2_round_trip :
    (before source after : List ℕ) (event : Bool) (code : ℕ) (answer : Writing)
    → WriteFrame before source event code answer after
    → RoundTrip before source event code answer after
demand_2_round_trip before source after event code answer write =
    record {
      written = λ fits size long. write.answered ∙ write_answer-written before source code fits size long;
      front = reads;
      whole = λ written fits. read_frame-alike after _ (take-alike after (reaches written) fits) ∙ reads written;
      layout = λ written. rw (held written) (frame_octets-layout source event code (room written).six);
    }
  where
    answers : answer ≡ Ok tt → write_answer before source code ≡ Ok tt
    answers written = sym write.answered ∙ written

    room : answer ≡ Ok tt → Room before source code
    room written = write_answer-room before source code (answers written)

    content : answer ≡ Ok tt → after ≡ frame_octets source event code ++ drop written_length before
    content written = write.content ∙ rw (answers written)

    sized : answer ≡ Ok tt → length (frame_octets source event code) ≡ written_length
    sized written = frame_octets-length source event code (room written).six

    held : answer ≡ Ok tt → take written_length after ≡ frame_octets source event code
    held written = rw (content written) (take_at _ (drop written_length before) written_length (sized written))

    reads : answer ≡ Ok tt → read_frame (take written_length after) ≡ message (Code code) event source
    reads written = rw (held written) (frame_octets-read source event code (room written).six (room written).fits)

    reaches : answer ≡ Ok tt → written_length ≤ length after
    reaches written =
        rw (content written, length-append _ (drop written_length before), sized written) (omega arith)
