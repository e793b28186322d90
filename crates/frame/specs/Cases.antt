-- Document 01, "frames of 59 and 60 octets": a table of frames and what reading each answers.
-- Assumes nothing.
use Rattle.std.specs.Prelude.{ℕ, ◌-◌, List, [], ◌∷◌, ◌++◌, map, ◌≡◌, set}
use Rattle.numbers.specs.Codes.{code_prc}
use Rattle.numbers.specs.Refusal.{frame_length, frame_destination, frame_protocol, frame_organisation, frame_version, frame_tlv}
use Rattle.frame.specs.declared.FrameRead.{FrameRead}
use Rattle.frame.specs.declared.FrameRead.TheVariants.{Code, Refused}
use Rattle.frame.specs.Read.{read_code}
use Rattle.frame.specs.Write.{zeros}

-- a frame of so many octets that says PRC, 0010
abbrev pub frame_of_size : ℕ → List ℕ
frame_of_size size =
    0x01 ∷ 0x80 ∷ 0xc2 ∷ 0x00 ∷ 0x00 ∷ 0x02 ∷ 0x00 ∷ 0x10 ∷ 0x20 ∷ 0x30 ∷ 0x40 ∷ 0x50 ∷ 0x88 ∷ 0x09 ∷
    0x0a ∷ 0x00 ∷ 0x19 ∷ 0xa7 ∷ 0x00 ∷ 0x01 ∷ 0x10 ∷ 0x00 ∷ 0x00 ∷ 0x00 ∷ 0x01 ∷ 0x00 ∷ 0x04 ∷ 0x02 ∷ []
    ++ zeros (size - 28)

-- a frame of 60 octets in which the octet of one number is another
abbrev pub damaged : ℕ → ℕ → List ℕ
damaged number value = set (frame_of_size 60) (number - 1) value

-- one row of the table
pub record FrameCase : Type 0 where
  pub frame : List ℕ
  pub answer : FrameRead

abbrev pub frame_case : List ℕ → FrameRead → FrameCase
frame_case frame answer = record { frame = frame; answer = answer }

abbrev pub frame_cases : List FrameCase
frame_cases =
    frame_case (frame_of_size 59) (Refused frame_length)
    ∷ frame_case (frame_of_size 60) (Code code_prc)
    ∷ frame_case (frame_of_size 1514) (Code code_prc)
    ∷ frame_case (frame_of_size 1515) (Refused frame_length)
    ∷ frame_case (damaged 1 0x00) (Refused frame_destination)
    ∷ frame_case (damaged 15 0x0b) (Refused frame_protocol)
    ∷ frame_case (damaged 20 0x02) (Refused frame_organisation)
    ∷ frame_case (damaged 21 0x20) (Refused frame_version)
    ∷ frame_case (damaged 27 0x05) (Refused frame_tlv)
    ∷ frame_case (damaged 12 0xff) (Code code_prc)
    ∷ frame_case (damaged 21 0x1f) (Code code_prc)
    ∷ frame_case (damaged 24 0xff) (Code code_prc)
    ∷ frame_case (damaged 28 0xf2) (Code code_prc)
    ∷ frame_case (damaged 60 0xff) (Code code_prc)
    ∷ []

-- each frame of the table reads as its row says
pub record ReadCases : Type 0 where
  pub read : map (λ (case : FrameCase). read_code case.frame) frame_cases
      ≡ map (λ (case : FrameCase). case.answer) frame_cases
