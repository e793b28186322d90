-- DEMAND 1 for frames: document 01, "Numbers of refusal", each number given where its row says and nowhere else.
-- Assumes nothing.
use Rattle.std.specs.Prelude.{ℕ, ◌≤◌, ◌<◌, false, List, Ok, Err, ◌⊎◌, ◌↔◌, ◌≢◌, ◌≡◌, length}
use Rattle.numbers.specs.Refusal.{argument_out_of_range, frame_length, frame_destination, frame_protocol, frame_organisation, frame_version, frame_tlv, buffer_too_short, source_not_six}
use Rattle.numbers.specs.Rows.{NoneApplies, RowApplies, SmallestRow}
use Rattle.frame.specs.declared.FrameRead.TheVariants as Read
use Rattle.frame.specs.Octets.{shortest_frame, longest_frame, octet, octets, destination, protocol, organisation, version, tlv, upper_half, lower_half}
use Rattle.frame.specs.Read.{right_length, frame_rows, event_flag, source_address, message, no_address, read_code, read_frame}
use Rattle.frame.specs.Write.{written_length, source_length, largest_code, write_answer}

-- rows 8 to 13 in document 01's words
pub record FrameRowsSaid (frame : List ℕ) : Type 0 where
  -- "frame length": "60 to 1,514 octets"
  pub eight : RowApplies frame_length (frame_rows frame) ↔
      ((length frame < shortest_frame) ⊎ (longest_frame < length frame))
  -- "destination"
  pub nine : RowApplies frame_destination (frame_rows frame) ↔ (octets frame 1 6 ≢ destination)
  -- "octets 13-15"
  pub ten : RowApplies frame_protocol (frame_rows frame) ↔ (octets frame 13 15 ≢ protocol)
  -- "octets 16-20"
  pub eleven : RowApplies frame_organisation (frame_rows frame) ↔ (octets frame 16 20 ≢ organisation)
  -- "version"
  pub twelve : RowApplies frame_version (frame_rows frame) ↔ (upper_half (octet frame 21) ≢ version)
  -- "octets 25-27"
  pub thirteen : RowApplies frame_tlv (frame_rows frame) ↔ (octets frame 25 27 ≢ tlv)

-- no number applies, and the code is as "28 upper half unused, lower half the code" has it
pub record Accepted (frame : List ℕ) (code : ℕ) : Type 0 where
  pub none : NoneApplies (frame_rows frame)
  pub lower : code ≡ lower_half (octet frame 28)

-- "The smallest number that applies is given": that number, or else the code, is answered exactly there
pub record ReadTable (frame : List ℕ) : Type 0 where
  -- rows 8 to 13 apply as said
  pub said : FrameRowsSaid frame
  pub refused : (number : ℕ) → read_code frame ≡ Read.Refused number ↔ SmallestRow number (frame_rows frame)
  pub read : (code : ℕ) → read_code frame ≡ Read.Code code ↔ Accepted frame code
  -- the code alone is the whole answer's
  pub whole : (read_frame frame).read ≡ read_code frame
  -- document 02, L2: "code, flag and the six address octets" where no number applies
  pub told : (code : ℕ) → Accepted frame code
      → read_frame frame ≡ message (Read.Code code) (event_flag frame) (source_address frame)
  -- and nothing else where one does: "refusals 8 to 13 keep their conditions and order"
  pub untold : (number : ℕ) → SmallestRow number (frame_rows frame)
      → read_frame frame ≡ message (Read.Refused number) false no_address

-- "Reserved and unused bits, and all from octet 29, are ignored on reading": frames that agree in the rest. The source
-- and the event flag are no reason to refuse, and change no code.
pub record Alike (one other : List ℕ) : Type 0 where
  pub lengths : right_length one ≡ right_length other
  pub destination : octets one 1 6 ≡ octets other 1 6
  pub protocol : octets one 13 15 ≡ octets other 13 15
  pub organisation : octets one 16 20 ≡ octets other 16 20
  pub version : upper_half (octet one 21) ≡ upper_half (octet other 21)
  pub tlv : octets one 25 27 ≡ octets other 25 27
  pub code : lower_half (octet one 28) ≡ lower_half (octet other 28)

-- frames that agree in the source and the flag as well
pub record AlikeThroughout (one other : List ℕ) : Type 0 where
  pub alike : Alike one other
  pub source : source_address one ≡ source_address other
  pub event : event_flag one ≡ event_flag other

-- "writing checks 6 (code above 15), 19, 18": what is answered in each case, and there is no other
pub record WriteTable (buffer source : List ℕ) (code : ℕ) : Type 0 where
  pub above : largest_code < code → write_answer buffer source code ≡ Err argument_out_of_range
  pub not_six :
      code ≤ largest_code
      → length source ≢ source_length
      → write_answer buffer source code ≡ Err source_not_six
  pub short :
      code ≤ largest_code
      → length source ≡ source_length
      → length buffer < written_length
      → write_answer buffer source code ≡ Err buffer_too_short
  pub written :
      code ≤ largest_code
      → length source ≡ source_length
      → written_length ≤ length buffer
      → write_answer buffer source code ≡ Ok tt
