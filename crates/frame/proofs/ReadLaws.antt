-- Laws of reading, one for each way through.
-- Assumes nothing.
use Prim.Native.Nat.{ℕ, ◌≤◌, ◌<◌}
use mathlib.Core.Bool.{Bool, true, false, cond}
use mathlib.Core.List.{List, [], ◌∷◌}
use mathlib.Core.Path.{◌≡◌, refl, sym}
use native.Mathlib.Omega.{arith}
use lib.Dec.{eqb, leb}
use lib.ListN.{length}
use lib.Seq.{slice-cons, slice_empty}
use borrow.Author.Tests.{eq-eqb, ne_eqb, eqb-true, leb-true, le-leb, lt-leb}
use Rattle.numbers.specs.Refusal.{accepted, frame_length, frame_organisation, frame_version, frame_tlv}
use Rattle.numbers.specs.Rows.{first_that_applies}
use Rattle.numbers.proofs.Rows.{NoneOrWithin, first-within}
use Rattle.frame.specs.declared.FrameRead.TheVariants.{Code, Refused}
use Rattle.frame.specs.Octets.{shortest_frame, longest_frame, octet}
use Rattle.frame.specs.Read.{right_length, right_destination, right_protocol, right_organisation, right_version, right_tlv, frame_rows, frame_number, frame_code, event_flag, source_address, message, no_address, read_code, read_frame, number_of_read}

module _ (frame : List ℕ) where
  -- ---- right_length

  pub right_length-right : shortest_frame ≤ length frame → length frame ≤ longest_frame → right_length frame ≡ true
  unfolding right_length
  right_length-right long fits = rw (le-leb _ _ long, le-leb _ _ fits)

  pub right_length-short : length frame < shortest_frame → right_length frame ≡ false
  unfolding right_length
  right_length-short short = rw (lt-leb _ _ short)

  pub right_length-long : longest_frame < length frame → right_length frame ≡ false
  unfolding right_length
  right_length-long long = rw (le-leb shortest_frame (length frame) (omega arith), lt-leb _ _ long)

  -- ---- frame_number

  -- a frame that is accepted is not too short
  pub frame_number-accepted : frame_number frame ≡ accepted → shortest_frame ≤ length frame
  unfolding frame_number first_that_applies right_length
  frame_number-accepted = go (leb shortest_frame (length frame)) refl
    where
      go :
          (long : Bool) → leb shortest_frame (length frame) ≡ long
          → frame_number frame ≡ accepted
          → shortest_frame ≤ length frame
      go true long number = leb-true _ _ long
      go false short number = let wrong : ◌≡◌ {A = ℕ} frame_length accepted = rw short at number in absurd (omega arith)

  -- a frame is accepted, or refused with 8 to 13
  pub frame_number-within : NoneOrWithin frame_length frame_tlv (frame_number frame)
  unfolding frame_number
  frame_number-within = first-within frame_length frame_tlv (frame_rows frame) refl

  -- the number in each case, by the first part that is not right
  pub frame_number-length : right_length frame ≡ false → frame_length ≡ frame_number frame
  unfolding frame_number first_that_applies
  frame_number-length wrong = rw wrong

  module _ (sized : right_length frame ≡ true) where
    module _ (addressed : right_destination frame ≡ true) where
      module _ (slow : right_protocol frame ≡ true) where
        pub frame_number-organisation : right_organisation frame ≡ false → frame_organisation ≡ frame_number frame
        unfolding frame_number first_that_applies
        frame_number-organisation wrong = rw (sized, addressed, slow, wrong)

        module _ (standard : right_organisation frame ≡ true) where
          pub frame_number-version : right_version frame ≡ false → frame_version ≡ frame_number frame
          unfolding frame_number first_that_applies
          frame_number-version wrong = rw (sized, addressed, slow, standard, wrong)

          module _ (known : right_version frame ≡ true) where
            pub frame_number-tlv : right_tlv frame ≡ false → frame_tlv ≡ frame_number frame
            unfolding frame_number first_that_applies
            frame_number-tlv wrong = rw (sized, addressed, slow, standard, known, wrong)

            pub frame_number-none : right_tlv frame ≡ true → accepted ≡ frame_number frame
            unfolding frame_number first_that_applies
            frame_number-none right = rw (sized, addressed, slow, standard, known, right)

  -- ---- read_code

  pub read_code_refused :
      (number : ℕ) → number ≡ frame_number frame
      → (number ≡ accepted → ⊥)
      → Refused number ≡ read_code frame
  unfolding read_code
  read_code_refused number given refused = rw (← given, ne_eqb _ _ refused)

  pub read_code_code : frame_number frame ≡ accepted → Code (frame_code frame) ≡ read_code frame
  unfolding read_code
  read_code_code given = rw (eq-eqb _ _ given)

  -- a code is read of an accepted frame alone, a number of one that is not
  pub read_code_accepted : (code : ℕ) → read_code frame ≡ Code code → frame_number frame ≡ accepted
  unfolding read_code
  read_code_accepted code = go (eqb (frame_number frame) accepted) refl
    where
      go :
          (none : Bool) → eqb (frame_number frame) accepted ≡ none
          → read_code frame ≡ Code code
          → frame_number frame ≡ accepted
      go true given _ = eqb-true _ _ given
      go false given read =
          let other : Refused (frame_number frame) ≡ Code code = rw given at read in
          let wrong : ◌≡◌ {A = ℕ} 0 1 = cc in
          absurd (omega arith)

  pub read_code_unaccepted : (number : ℕ) → read_code frame ≡ Refused number → frame_number frame ≡ accepted → ⊥
  read_code_unaccepted number read given =
      let coded = read_code_code given in
      let wrong : ◌≡◌ {A = ℕ} 0 1 = cc in
      omega arith

  -- ---- source_address

  pub source_address-six : shortest_frame ≤ length frame
      → source_address frame
      ≡ octet frame 7 ∷ octet frame 8 ∷ octet frame 9 ∷ octet frame 10 ∷ octet frame 11 ∷ octet frame 12 ∷ []
  source_address-six long =
      rw (
        slice-cons 6 12 frame 0 (omega arith) (omega arith),
        slice-cons 7 12 frame 0 (omega arith) (omega arith),
        slice-cons 8 12 frame 0 (omega arith) (omega arith),
        slice-cons 9 12 frame 0 (omega arith) (omega arith),
        slice-cons 10 12 frame 0 (omega arith) (omega arith),
        slice-cons 11 12 frame 0 (omega arith) (omega arith),
        slice_empty 12 frame,
      )

  -- ---- read_frame

  pub read_frame-told : frame_number frame ≡ accepted
      → read_frame frame ≡ message (read_code frame) (event_flag frame) (source_address frame)
  unfolding read_frame read_code
  read_frame-told given = rw (eq-eqb _ _ given)

  pub read_frame-untold : (frame_number frame ≡ accepted → ⊥)
      → read_frame frame ≡ message (read_code frame) false no_address
  unfolding read_frame read_code
  read_frame-untold refused = rw (ne_eqb _ _ refused)

  pub read_frame-read : (read_frame frame).read ≡ read_code frame
  unfolding read_frame read_code
  read_frame-read = go (eqb (frame_number frame) accepted) refl
    where
      go : (none : Bool) → eqb (frame_number frame) accepted ≡ none → (read_frame frame).read ≡ read_code frame
      go true given = rw given
      go false given = rw given

  -- ---- number_of_read

  -- the answer says the number that the frame is refused with
  pub number_of_read_read_code : number_of_read (read_code frame) ≡ frame_number frame
  unfolding read_code
  number_of_read_read_code = go (eqb (frame_number frame) accepted) refl
    where
      go :
          (none : Bool) → eqb (frame_number frame) accepted ≡ none
          → number_of_read (cond none (Code (frame_code frame)) (Refused (frame_number frame))) ≡ frame_number frame
      go true equal = sym (eqb-true _ _ equal)
      go false _ = refl
