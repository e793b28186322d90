-- Document 01, "ESMC frame" and rows 6, 18 and 19 of "Numbers of refusal": what writing a frame answers and leaves.
-- Cited by `src/lib.rt`.
-- Assumes nothing.
use Rattle.std.specs.Prelude.{ℕ, ◌+◌, ◌-◌, ◌*◌, Bool, true, false, cond, not, List, [], ◌∷◌, ◌++◌, Result, Ok, Err, ◌≡◌, eqb, ltb, length, drop, replicate}
use Rattle.std.proofs.Math.Seq.{paste}
use Rattle.numbers.specs.Refusal.{argument_out_of_range, buffer_too_short, source_not_six}
use Rattle.frame.specs.Octets.{destination, protocol, organisation, half, version, event_bit, tlv}

-- "We write 60 octets"
abbrev pub written_length : ℕ
written_length = 60

-- "a lent six-octet source address"
abbrev pub source_length : ℕ
source_length = 6

-- "code above 15"
abbrev pub largest_code : ℕ
largest_code = 15

-- "21 upper half version 1, bit 3 event flag, bits 2-0 reserved"
abbrev pub octet21 : Bool → ℕ
octet21 true = half * version + event_bit
octet21 false = half * version

-- "Reserved and unused bits, and all from octet 29, are ignored on reading and zero on writing"
abbrev pub zeros : ℕ → List ℕ
zeros count = replicate count 0

-- octets 1 to 24
unfoldable pub header_octets : List ℕ → Bool → List ℕ
header_octets source event =
    destination  -- 1-6
    ++ source  -- 7-12
    ++ protocol  -- 13-15
    ++ organisation  -- 16-20
    ++ octet21 event ∷ []  -- 21
    ++ zeros 3  -- 22-24

-- the "data octets after octet 24"
unfoldable pub data_octets : ℕ → List ℕ
data_octets code =
    tlv  -- 25-27
    ++ code ∷ []  -- 28
    ++ zeros 32  -- 29-60

-- "We write 60 octets from a lent six-octet source address, an event flag and a code"
unfoldable pub frame_octets : List ℕ → Bool → ℕ → List ℕ
frame_octets source event code = header_octets source event ++ data_octets code

-- what writing answers: that the frame is written, or the number of its refusal
abbrev pub Writing : Type 0
Writing = Result (Unit {0}) ℕ

-- "writing checks 6 (code above 15), 19, 18"
unfoldable pub write_answer : List ℕ → List ℕ → ℕ → Writing
write_answer buffer source code =
    cond (ltb largest_code code) (Err argument_out_of_range)
    (cond (not (eqb (length source) source_length)) (Err source_not_six)
    (cond (ltb (length buffer) written_length) (Err buffer_too_short)
    (Ok tt)))

-- a buffer with a row of octets put into it from a first number on
unfoldable pub put_octets : List ℕ → ℕ → List ℕ → List ℕ
put_octets buffer first row = paste buffer (first - 1) row (length row)

-- "octets after 60 are kept"; "6, 18 and 19 on writing leave the buffer"
abbrev pub content_after : Writing → List ℕ → List ℕ → Bool → ℕ → List ℕ
content_after (Ok _) before source event code = frame_octets source event code ++ drop written_length before
content_after (Err number) before source event code = before

-- what writing answers, and what it leaves in the buffer
pub record WriteFrame
    (before source : List ℕ) (event : Bool) (code : ℕ) (answer : Writing) (after : List ℕ)
    : Type 0 where
  pub answered : answer ≡ write_answer before source code
  pub content : after ≡ content_after (write_answer before source code) before source event code
