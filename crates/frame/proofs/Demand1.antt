-- DEMAND 1 for frames: the numbers of reading and of writing are those of the table.
-- Assumes nothing.
use Prim.Native.Nat.{ℕ, ◌<◌}
use mathlib.Core.Bool.{true, not}
use mathlib.Core.List.{List}
use mathlib.Core.Logic.Iff
use mathlib.Core.Logic.{◌⊎◌, inl, inr, ⊎_elim, ◌↔◌, ◌≢◌}
use mathlib.Core.Path.{◌≡◌, refl, sym, ap, ◌∙◌}
use native.Mathlib.Omega.{arith}
use borrow.Author.Tests.{ne_eqb, eqb-false, leb-false, not-true}
use lib.Dec.{eqb, leb}
use lib.ListN.{length}
use Rattle.numbers.specs.Refusal.{accepted, frame_length, frame_destination, frame_protocol, frame_organisation, frame_version, frame_tlv}
use Rattle.numbers.specs.Rows.{first_that_applies, NoneApplies, RowApplies, SmallestRow}
use Rattle.numbers.proofs.Truth.{by_bool}
use Rattle.numbers.proofs.Rows.{test_of, none-exact, smallest-exact, applies-numbered, row-exact}
use Rattle.frame.specs.declared.FrameRead.TheVariants.{Code, Refused}
use Rattle.frame.specs.Octets.{shortest_frame, longest_frame, octet, lower_half, same}
use Rattle.frame.specs.Read.{right_length, right_destination, right_protocol, right_organisation, right_version, right_tlv, frame_rows, frame_number, read_code, read_frame}
use Rattle.frame.specs.Demand1.{FrameRowsSaid, Accepted, ReadTable, Alike, AlikeThroughout, WriteTable}
use Rattle.frame.proofs.Rows.{same_false, same-other}
use Rattle.frame.proofs.ReadLaws.{right_length-short, right_length-long, read_code_code, read_code_refused, read_code_accepted, read_code_unaccepted, read_frame-told, read_frame-untold, read_frame-read}
use Rattle.frame.proofs.WriteLaws.{write_answer-code, write_answer-source, write_answer-buffer, write_answer-written}

-- ---- rows 8 to 13

-- two numbers, two rows of octets are not the same exactly where their test fails
not_equal : (one other : ℕ) → (not (eqb one other) ≡ true) ↔ (one ≢ other)
not_equal one other = (λ e. eqb-false one other (not-true _ e), λ differ. rw (ne_eqb one other differ))

not_same : (one other : List ℕ) → (not (same one other) ≡ true) ↔ (one ≢ other)
not_same one other = (λ e. same_false one other (not-true _ e), λ differ. rw (same-other one other differ))

module _ (frame : List ℕ) where
  -- a length is not right exactly where it is too short or too long
  not_length : (not (right_length frame) ≡ true) ↔ ((length frame < shortest_frame) ⊎ (longest_frame < length frame))
  unfolding right_length
  not_length = (
    λ e. by_bool (leb shortest_frame (length frame))
        (λ long. inr (leb-false _ _ (not-true _ (rw long at e))))
        (λ short. inl (leb-false _ _ short)),
    ⊎_elim (λ short. rw (right_length-short frame short)) (λ long. rw (right_length-long frame long)),
  )

  -- the row of a number applies exactly where its part of the frame is not right
  frame_rows-exact : (number : ℕ) → RowApplies number (frame_rows frame) ↔ (test_of number (frame_rows frame) ≡ true)
  frame_rows-exact number = row-exact frame_length number (frame_rows frame) refl

  frame_rows-said : FrameRowsSaid frame
  unfolding right_destination right_protocol right_organisation right_version right_tlv
  frame_rows-said =
      record {
        eight = Iff.trans (frame_rows-exact frame_length) not_length;
        nine = Iff.trans (frame_rows-exact frame_destination) (not_same _ _);
        ten = Iff.trans (frame_rows-exact frame_protocol) (not_same _ _);
        eleven = Iff.trans (frame_rows-exact frame_organisation) (not_same _ _);
        twelve = Iff.trans (frame_rows-exact frame_version) (not_equal _ _);
        thirteen = Iff.trans (frame_rows-exact frame_tlv) (not_same _ _);
      }

  -- what is given, by the rows
  frame_number-none : (frame_number frame ≡ accepted) ↔ NoneApplies (frame_rows frame)
  unfolding frame_number
  frame_number-none = none-exact frame_length (frame_rows frame) (omega arith) refl

  frame_number-smallest : (number : ℕ) → number ≢ accepted
      → (frame_number frame ≡ number) ↔ SmallestRow number (frame_rows frame)
  unfolding frame_number
  frame_number-smallest = smallest-exact frame_length (frame_rows frame) (omega arith) refl

  smallest-numbered : (number : ℕ) → SmallestRow number (frame_rows frame) → number ≢ accepted
  smallest-numbered number smallest =
      applies-numbered frame_length (frame_rows frame) (omega arith) refl number smallest.applies

-- "Reserved and unused bits, and all from octet 29, are ignored on reading"
pub read_code_alike : (one other : List ℕ) → Alike one other → read_code one ≡ read_code other
unfolding read_code frame_number first_that_applies right_destination right_protocol right_organisation right_version right_tlv
read_code_alike one other alike =
    rw (
      alike.lengths,
      alike.destination,
      alike.protocol,
      alike.organisation,
      alike.version,
      alike.tlv,
      alike.code,
    )

-- and so are they in the flag and the address, which frames agree in that differ in such bits alone
pub read_frame-alike : (one other : List ℕ) → AlikeThroughout one other → read_frame one ≡ read_frame other
unfolding read_frame frame_number first_that_applies right_destination right_protocol right_organisation right_version right_tlv
read_frame-alike one other alike =
    rw (
      alike.alike.lengths,
      alike.alike.destination,
      alike.alike.protocol,
      alike.alike.organisation,
      alike.alike.version,
      alike.alike.tlv,
      alike.alike.code,
      alike.source,
      alike.event,
    )

-- DEMAND 1: every frame is refused with the smallest of 8 to 13 that applies, and read where none does.
pub demand_1_read-frame : (frame : List ℕ) → ReadTable frame
demand_1_read-frame frame =
    record {
      said = frame_rows-said frame;
      refused = λ number. (refused number, λ one. sym (refused-here number one));
      read = λ code. (accepts code, λ one. sym (coded one) ∙ ap Code (sym one.lower));
      whole = read_frame-read frame;
      told = λ code one. read_frame-told frame ((frame_number-none frame).1 one.none) ∙ rw (← coded one, one.lower);
      untold = λ number one.
          read_frame-untold frame (λ none. smallest-numbered frame number one (sym (given number one) ∙ none)) ∙
          rw (← refused-here number one);
    }
  where
    given : (number : ℕ) → SmallestRow number (frame_rows frame) → frame_number frame ≡ number
    given number one = (frame_number-smallest frame number (smallest-numbered frame number one)).1 one

    refused-here : (number : ℕ) → SmallestRow number (frame_rows frame) → Refused number ≡ read_code frame
    refused-here number one =
        read_code_refused frame number (sym (given number one)) (smallest-numbered frame number one)

    refused : (number : ℕ) → read_code frame ≡ Refused number → SmallestRow number (frame_rows frame)
    refused number answer =
        let other : frame_number frame ≢ accepted = read_code_unaccepted frame number answer in
        let here = read_code_refused frame (frame_number frame) refl other in
        let same : frame_number frame ≡ number = cc in
        (frame_number-smallest frame number (λ none. other (same ∙ none))).0 same

    coded : {code : ℕ} → Accepted frame code → Code (lower_half (octet frame 28)) ≡ read_code frame
    coded one = read_code_code frame ((frame_number-none frame).1 one.none)

    accepts : (code : ℕ) → read_code frame ≡ Code code → Accepted frame code
    accepts code answer =
        let none : frame_number frame ≡ accepted = read_code_accepted frame code answer in
        let here = read_code_code frame none in
        record { none = (frame_number-none frame).0 none; lower = cc }

-- DEMAND 1: every write is refused as the table says, in the order 6, 19, 18.
pub demand_1_write_frame : (buffer source : List ℕ) (code : ℕ) → WriteTable buffer source code
demand_1_write_frame buffer source code =
    record {
      above = write_answer-code buffer source code;
      not_six = write_answer-source buffer source code;
      short = write_answer-buffer buffer source code;
      written = write_answer-written buffer source code;
    }
