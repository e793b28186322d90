-- Numbers as the tools write them and read them. Cited by `src/lib.rt`. A character is its number in ASCII.
-- Assumes nothing.
use Rattle.std.specs.Prelude.{ℕ, ◌+◌, ◌*◌, ◌≤◌, Bool, cond, Option, None, Some, ◌&&◌, List, [], ◌∷◌, ◌++◌, ◌≡◌, leb, ltb, length, take, drop}
use Rattle.digits.specs.Digits.{space, all_numerals}
use Rattle.digits.specs.Decimal.{decimal_of, decimal_value}

-- a space and 20 digits hold every number of 64 bits
abbrev pub widest_number : ℕ
widest_number = 21

-- numbers in decimal, a space before each
unfoldable pub spaced_numbers : List ℕ → List ℕ
spaced_numbers [] = []
spaced_numbers (number ∷ later) = (space ∷ decimal_of number) ++ spaced_numbers later

-- numbers in decimal, "a space between two numbers"
unfoldable pub numbers_text : List ℕ → List ℕ
numbers_text [] = []
numbers_text (number ∷ later) = decimal_of number ++ spaced_numbers later

-- an output once a text has been written from a place: what stands before and behind is kept
abbrev pub with_text : ℕ → List ℕ → List ℕ → List ℕ
with_text place text out = take place out ++ text ++ drop (place + length text) out

-- there is room for so many numbers from a place, whatever they are
unfoldable pub has_room : ℕ → ℕ → List ℕ → Bool
has_room count place out = leb (place + widest_number * count) (length out)

-- what is written of numbers: nothing where there might be no room
unfoldable pub roomed_text : List ℕ → ℕ → List ℕ → List ℕ
roomed_text numbers place out = cond (has_room (length numbers) place out) (numbers_text numbers) []

-- numbers written from a place: the place behind them, no more than 21 characters a number on, and the whole output
pub record PutNumbers (numbers : List ℕ) (place : ℕ) (before : List ℕ) (end : ℕ) (after : List ℕ) : Type 0 where
  pub past : end ≡ place + length (roomed_text numbers place before)
  pub short : end ≤ place + widest_number * length numbers
  pub content : after ≡ with_text place (roomed_text numbers place before) before

-- a number up to a largest one, in decimal digits, of which there is at least one
unfoldable pub read_number : List ℕ → ℕ → Option ℕ
read_number text most =
    cond (ltb 0 (length text) && all_numerals text && leb (decimal_value 0 text) most) (Some (decimal_value 0 text))
    None
