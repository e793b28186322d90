-- DEMAND 2 for frames: document 01, "ESMC frame", what a written frame holds, and that it reads back.
-- Assumes nothing.
use Rattle.std.specs.Prelude.{ℕ, ◌≤◌, Bool, cond, List, [], ◌∷◌, Ok, ◌≡◌, length, take}
use Rattle.frame.specs.declared.FrameRead.TheVariants.{Code}
use Rattle.frame.specs.Octets.{longest_frame, octet, octets, event_bit, upper_half, lower_half}
use Rattle.frame.specs.Read.{message, read_frame}
use Rattle.frame.specs.Write.{Writing, written_length, source_length, largest_code, zeros}

-- "Octets from 1", each as the document has it
pub record Layout (frame source : List ℕ) (event : Bool) (code : ℕ) : Type 0 where
  -- "We write 60 octets"
  pub size : length frame ≡ 60
  -- "destination 01-80-C2-00-00-02"
  pub to6 : octets frame 1 6 ≡ 0x01 ∷ 0x80 ∷ 0xc2 ∷ 0x00 ∷ 0x00 ∷ 0x02 ∷ []
  -- "7-12 source"
  pub to12 : octets frame 7 12 ≡ source
  -- "13-14 88-09"
  pub to14 : octets frame 13 14 ≡ 0x88 ∷ 0x09 ∷ []
  -- "15 0A"
  pub at15 : octet frame 15 ≡ 0x0a
  -- "16-18 00-19-A7"
  pub to18 : octets frame 16 18 ≡ 0x00 ∷ 0x19 ∷ 0xa7 ∷ []
  -- "19-20 00-01"
  pub to20 : octets frame 19 20 ≡ 0x00 ∷ 0x01 ∷ []
  -- "21 upper half version 1"
  pub upper21 : upper_half (octet frame 21) ≡ 1
  -- "bit 3 event flag, bits 2-0 reserved"
  pub lower21 : lower_half (octet frame 21) ≡ cond event event_bit 0
  -- "22-24 reserved"
  pub to24 : octets frame 22 24 ≡ zeros 3
  -- "25 type 01"
  pub at25 : octet frame 25 ≡ 0x01
  -- "26-27 length 00-04"
  pub to27 : octets frame 26 27 ≡ 0x00 ∷ 0x04 ∷ []
  -- "28 upper half unused, lower half the code"
  pub at28 : octet frame 28 ≡ code
  -- "all from octet 29 .. zero on writing"
  pub to60 : octets frame 29 60 ≡ zeros 32

-- whatever is written reads back as the code, the flag and the source that were written, and every code, source, flag
-- and buffer with room for it is written
pub record RoundTrip
    (before source : List ℕ) (event : Bool) (code : ℕ) (answer : Writing) (after : List ℕ)
    : Type 0 where
  pub written :
      code ≤ largest_code
      → length source ≡ source_length
      → written_length ≤ length before
      → answer ≡ Ok tt
  -- the 60 octets written
  pub front : answer ≡ Ok tt → read_frame (take written_length after) ≡ message (Code code) event source
  -- the whole buffer, where a frame can be as long as that
  pub whole : answer ≡ Ok tt → length after ≤ longest_frame → read_frame after ≡ message (Code code) event source
  -- "octets from 1"
  pub layout : answer ≡ Ok tt → Layout (take written_length after) source event code
