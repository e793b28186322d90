-- Document 01, "ESMC frame": the octets of a frame, "Octets from 1". `Read` and `Write` say what is done with them.
-- Assumes nothing.
use Rattle.std.specs.Prelude.{ℕ, ◌+◌, ◌-◌, ◌/◌, ◌%◌, Bool, true, false, ◌&&◌, List, [], ◌∷◌, eqb, length, get_or}
use Rattle.std.proofs.Math.Seq.{slice}

-- "60 to 1,514 octets": the shortest frame
abbrev pub shortest_frame : ℕ
shortest_frame = 60

-- "60 to 1,514 octets": the longest frame
abbrev pub longest_frame : ℕ
longest_frame = 1514

-- "Octets from 1": the octet that has a number
abbrev pub octet : List ℕ → ℕ → ℕ
octet frame number = get_or frame (number - 1) 0

-- the octets from a first number to a final one, as "13-15"
abbrev pub octets : List ℕ → ℕ → ℕ → List ℕ
octets frame first final = slice (first - 1) final frame

-- octets 1-6: "destination 01-80-C2-00-00-02"
abbrev pub destination : List ℕ
destination = 0x01 ∷ 0x80 ∷ 0xc2 ∷ 0x00 ∷ 0x00 ∷ 0x02 ∷ []

-- octets 13-15: "13-14 88-09; 15 0A"
abbrev pub protocol : List ℕ
protocol = 0x88 ∷ 0x09 ∷ 0x0a ∷ []

-- octets 16-20: "16-18 00-19-A7; 19-20 00-01"
abbrev pub organisation : List ℕ
organisation = 0x00 ∷ 0x19 ∷ 0xa7 ∷ 0x00 ∷ 0x01 ∷ []

-- octet 21: "upper half version 1"
abbrev pub version : ℕ
version = 1

-- octet 21: "bit 3 event flag"
abbrev pub event_bit : ℕ
event_bit = 8

-- octets 25-27: "25 type 01; 26-27 length 00-04"
abbrev pub tlv : List ℕ
tlv = 0x01 ∷ 0x00 ∷ 0x04 ∷ []

-- an octet's upper half counts sixteens
abbrev pub half : ℕ
half = 16

-- "upper half", bits 7-4
abbrev pub upper_half : ℕ → ℕ
upper_half value = value / half

-- "lower half", bits 3-0
abbrev pub lower_half : ℕ → ℕ
lower_half value = value % half

-- whether two rows of octets are the same
unfoldable pub same : List ℕ → List ℕ → Bool
same [] [] = true
same [] (other ∷ others) = false
same (one ∷ ones) [] = false
same (one ∷ ones) (other ∷ others) = eqb one other && same ones others

-- whether the octets from a first number on are those of a row
abbrev pub has_octets : List ℕ → ℕ → List ℕ → Bool
has_octets frame first row = same (octets frame first (first - 1 + length row)) row
