-- Document 01, "ESMC frame" and rows 8 to 13 of "Numbers of refusal"; document 02, L2: what reading a frame answers.
-- Cited by `src/lib.rt`. Nothing here says how the octets are gone through.
-- Assumes nothing.
use Rattle.std.specs.Prelude.{ℕ, ◌/◌, ◌%◌, Bool, false, cond, not, ◌&&◌, List, [], ◌∷◌, eqb, leb, length}
use Rattle.numbers.specs.Refusal.{accepted, frame_length, frame_destination, frame_protocol, frame_organisation, frame_version, frame_tlv}
use Rattle.numbers.specs.Rows.{Refusal, refusal, first_that_applies}
use Rattle.frame.specs.declared.FrameRead.{FrameRead}
use Rattle.frame.specs.declared.FrameRead.TheVariants.{Code, Refused}
use Rattle.frame.specs.declared.FrameMessage.{FrameMessage}
use Rattle.frame.specs.Octets.{shortest_frame, longest_frame, octet, octets, destination, protocol, organisation, version, event_bit, tlv, upper_half, lower_half, same}

-- "Lengths are without FCS: 60 to 1,514 octets"
unfoldable pub right_length : List ℕ → Bool
right_length frame = leb shortest_frame (length frame) && leb (length frame) longest_frame

-- "destination 01-80-C2-00-00-02"
unfoldable pub right_destination : List ℕ → Bool
right_destination frame = same (octets frame 1 6) destination

-- "13-14 88-09; 15 0A"
unfoldable pub right_protocol : List ℕ → Bool
right_protocol frame = same (octets frame 13 15) protocol

-- "16-18 00-19-A7; 19-20 00-01"
unfoldable pub right_organisation : List ℕ → Bool
right_organisation frame = same (octets frame 16 20) organisation

-- "21 upper half version 1"
unfoldable pub right_version : List ℕ → Bool
right_version frame = eqb (upper_half (octet frame 21)) version

-- "25 type 01; 26-27 length 00-04"
unfoldable pub right_tlv : List ℕ → Bool
right_tlv frame = same (octets frame 25 27) tlv

-- rows 8 to 13, in the table's order
abbrev pub frame_rows : List ℕ → List Refusal
frame_rows frame =
    refusal frame_length (not (right_length frame)) ∷
    refusal frame_destination (not (right_destination frame)) ∷
    refusal frame_protocol (not (right_protocol frame)) ∷
    refusal frame_organisation (not (right_organisation frame)) ∷
    refusal frame_version (not (right_version frame)) ∷
    refusal frame_tlv (not (right_tlv frame)) ∷
    []

-- "The smallest number that applies is given"; 0 accepted
unfoldable pub frame_number : List ℕ → ℕ
frame_number frame = first_that_applies (frame_rows frame)

-- "7-12 source"
abbrev pub source_address : List ℕ → List ℕ
source_address frame = octets frame 7 12

-- "21 .. bit 3 event flag"
abbrev pub event_flag : List ℕ → Bool
event_flag frame = eqb (octet frame 21 / event_bit % 2) 1

-- "28 upper half unused, lower half the code"
abbrev pub frame_code : List ℕ → ℕ
frame_code frame = lower_half (octet frame 28)

-- the code of a frame that is accepted, the number of one that is refused
unfoldable pub read_code : List ℕ → FrameRead
read_code frame = cond (eqb (frame_number frame) accepted) (Code (frame_code frame)) (Refused (frame_number frame))

-- an answer of three parts
abbrev pub message : FrameRead → Bool → List ℕ → FrameMessage
message read event source = record { read = read; event = event; source = source }

-- six octets that tell no address
abbrev pub no_address : List ℕ
no_address = 0 ∷ 0 ∷ 0 ∷ 0 ∷ 0 ∷ 0 ∷ []

-- "Reading now answers code, flag and the six address octets"; a frame that is refused tells its number and no more
unfoldable pub read_frame : List ℕ → FrameMessage
read_frame frame =
    cond (eqb (frame_number frame) accepted)
    (message (Code (frame_code frame)) (event_flag frame) (source_address frame))
    (message (Refused (frame_number frame)) false no_address)

-- the number that each answer says: 0 accepted
abbrev pub number_of_read : FrameRead → ℕ
number_of_read (Code code) = accepted
number_of_read (Refused number) = number

-- the code that each answer says: 0 where the frame is refused
abbrev pub code_of_read : FrameRead → ℕ
code_of_read (Code code) = code
code_of_read (Refused number) = 0
