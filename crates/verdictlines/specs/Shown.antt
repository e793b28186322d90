-- A shown line, and what it says: `=`, twelve digits of the time, and ten of an answer or four of a port and its code.
-- Cited by `src/shown.rt`. Assumes nothing.
use Rattle.std.specs.Prelude.{ℕ, ◌+◌, ◌<◌, Bool, false, ◌&&◌, ◌||◌, cond, List, [], ◌∷◌, ◌≡◌, eqb, ltb, length, drop, get_or, Option, Some, None}
use Rattle.std.proofs.Math.Seq.{slice}
use Rattle.numbers.specs.declared.Answer.{Answer}
use Rattle.digits.specs.Digits.{all_digits, octets_of}
use Rattle.eventlog.specs.Line.{high_first}
use Rattle.eventlog.specs.InnerPromises.{octet_at}
use Rattle.lanes.specs.declared.View.{View}
use Rattle.lanes.specs.Value.{answer_value}
use Rattle.verdictlines.specs.declared.shown.Shown.{Shown}

-- `=`
abbrev pub mark : ℕ
mark = 61

-- a line is a shown one: it begins with the mark
unfoldable pub is_shown : List ℕ → Bool
is_shown [] = false
is_shown (character ∷ rest) = eqb character mark

-- the octets that the digits behind the mark stand for
abbrev pub shown_octets : List ℕ → List ℕ
shown_octets line = octets_of (drop 1 line)

-- "twelve digits of the time": six octets, high first
unfoldable pub shown_time : List ℕ → ℕ
shown_time line = high_first (slice 0 6 (shown_octets line))

-- an octet behind the time
unfoldable pub shown_octet : List ℕ → ℕ → ℕ
shown_octet line place = get_or (shown_octets line) (6 + place) 0

-- "ten of an answer": the selected input, the clock state, the quality, the switch and its input
abbrev pub shown_answer : List ℕ → Answer
shown_answer line =
    record {
      number = 0;
      selected = shown_octet line 0;
      clockstate = shown_octet line 1;
      clockquality = shown_octet line 2;
      switchkind = shown_octet line 3;
      switchinput = shown_octet line 4;
    }

-- so many characters, of which those behind the mark are digits
unfoldable pub is_shown_form : ℕ → List ℕ → Bool
is_shown_form size line = eqb (length line) size && all_digits (drop 1 line)

-- a value, said in a lane
abbrev pub said_in : ℕ → ℕ → ℕ → Option Shown
said_in lane time value = Some (record { lane = lane; time = time; value = value })

-- the code of a port: there are sixteen of each
unfoldable pub port_said : ℕ → ℕ → ℕ → Option Shown
port_said port time code = cond (ltb 15 port || ltb 15 code) None (said_in port time code)

-- "four of a port and its code": said in that port's lane
unfoldable pub read_port : List ℕ → Option Shown
read_port line =
    cond (is_shown_form 17 line) (port_said (shown_octet line 0) (shown_time line) (shown_octet line 1)) None

-- what is judged of an answer, in the one lane
unfoldable pub read_answer : View → List ℕ → Option Shown
read_answer view line =
    cond (is_shown_form 23 line) (said_in 0 (shown_time line) (answer_value view (shown_answer line))) None

-- what a shown line says: the lane, the time and the value; a line of no such form says nothing
unfoldable pub read_shown : View → List ℕ → Option Shown
read_shown view line = cond view.codes (read_port line) (read_answer view line)

-- the octet of the two digits that begin at a place, with its bound
pub record OctetIn (line : List ℕ) (place octet : ℕ) : Type 0 where
  pub value : octet ≡ octet_at line place
  pub below : octet < 256
