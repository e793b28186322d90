-- Document 02, L2, as its readings have the program `read_frames`: "frames as digits, one a line", and what is printed
-- for each. Cited by `src/lib.rt`.
-- Assumes nothing.
use Rattle.std.specs.Prelude.{ℕ, ◌-◌, ◌%◌, Bool, true, false, cond, ◌&&◌, List, [], ◌∷◌, ◌++◌, eqb, length, replicate}
use Rattle.numbers.specs.Refusal.{accepted, line_malformed}
use Rattle.digits.specs.Digits.{all_digits, octets_of, digit_of, lower_digit, digits_of, space}
use Rattle.reader.specs.Lines.{line_feed}
use Rattle.frame.specs.declared.FrameRead.{FrameRead}
use Rattle.frame.specs.declared.FrameRead.TheVariants.{Code, Refused}
use Rattle.frame.specs.declared.FrameMessage.{FrameMessage}
use Rattle.frame.specs.Read.{read_frame}
use Rattle.frametext.specs.declared.MessageLine.{MessageLine}

-- "0 or 1"
abbrev pub flag_digit : Bool → ℕ
flag_digit true = digit_of 1
flag_digit false = digit_of 0

-- "`00 CODE FLAG ADDRESS` (one digit, 0 or 1, twelve digits)"
unfoldable pub code_text : ℕ → Bool → List ℕ → List ℕ
code_text code event source =
    digits_of (accepted ∷ []) ++ (space ∷ lower_digit code ∷ space ∷ flag_digit event ∷ space ∷ digits_of source)

-- "or the refusal"
abbrev pub read_text : FrameRead → Bool → List ℕ → List ℕ
read_text (Code code) event source = code_text code event source
read_text (Refused number) event source = digits_of (number ∷ [])

abbrev pub message_text : FrameMessage → List ℕ
message_text message = read_text message.read message.event message.source

-- "an even number of lowercase digits"
unfoldable pub is_frame_line : List ℕ → Bool
is_frame_line line = all_digits line && eqb (length line % 2) 0

-- "`01` for a line that is no even number of lowercase digits"
unfoldable pub frame_line_text : List ℕ → List ℕ
frame_line_text line = cond (is_frame_line line) (message_text (read_frame (octets_of line))) (digits_of (line_malformed ∷ []))

-- a text and an LF in front of twenty characters, zeros after them
unfoldable pub in_front : List ℕ → MessageLine
in_front text =
    record {
      text = text ++ (line_feed ∷ []) ++ replicate (20 - length (text ++ (line_feed ∷ []))) 0;
      length = length (text ++ (line_feed ∷ []));
    }

-- what is printed for a line
unfoldable pub message_line : List ℕ → MessageLine
message_line line = in_front (frame_line_text line)
