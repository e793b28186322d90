-- START: document 02, L10 and L11, and the paper of their readings, "Programs". Cited by `src/lib.rt`. A character is
-- its number in ASCII. Assumes nothing.
use Rattle.std.specs.Prelude.{ℕ, ◌+◌, ◌*◌, Bool, cond, ◌&&◌, Result, Ok, Err, List, [], ◌∷◌, ◌≡◌, eqb, ltb, length, get_or}
use Rattle.numbers.specs.Refusal.{accepted}
use Rattle.numbers.specs.Profile.{option_two, unplaced, prov_place_in, start_number}
use Rattle.digits.specs.Digits.{all_digits, digit_value, all_numerals}
use Rattle.digits.specs.Decimal.{decimal_value}
use Rattle.start.specs.declared.Start.{Start}
use Rattle.start.specs.declared.StartError.{StartError}
use Rattle.start.specs.declared.StartError.TheVariants.{Refused, NoStart}

-- the numeral of option II
abbrev pub numeral2 : ℕ
numeral2 = 50

-- the word is that numeral, and nothing else
abbrev pub is_option_word : ℕ → List ℕ → Bool
is_option_word numeral word = eqb (length word) 1 && eqb (get_or word 0 0) numeral

-- "PLACE decimal": at least one digit, and no other character
abbrev pub is_decimal : List ℕ → Bool
is_decimal word = ltb 0 (length word) && all_numerals word

-- "MARKS four hexadecimal digits"
abbrev pub is_marks : List ℕ → Bool
is_marks word = eqb (length word) 4 && all_digits word

-- the number that hexadecimal digits stand for, behind a number that was passed: so "bit i (of value 2^i) for port i"
unfoldable pub digits_value : ℕ → List ℕ → ℕ
digits_value passed [] = passed
digits_value passed (digit ∷ rest) = digits_value (passed * 16 + digit_value digit) rest

-- a start with a place and marks: "A place above 8 prints `06` and nothing else."
abbrev pub start_of : ℕ → ℕ → Result Start StartError
start_of provplace marks =
    cond (eqb (start_number option_two provplace) accepted)
    (Ok (record { provplace = prov_place_in provplace; marks = marks }))
    (Err Refused)

-- "`2 PLACE MARKS`": three words; a place may be a number of any size
abbrev pub start_in : List ℕ → List ℕ → List ℕ → Result Start StartError
start_in option provplace marks =
    cond (is_option_word numeral2 option && is_decimal provplace && is_marks marks)
    (start_of (decimal_value 0 provplace) (digits_value 0 marks))
    (Err NoStart)

-- "nothing, or `2 PLACE MARKS`"; "with nothing they are L11's: unplaced, no marks": so many words, of which the first
-- three are given
unfoldable pub start_by : ℕ → List ℕ → List ℕ → List ℕ → Result Start StartError
start_by count option provplace marks =
    cond (eqb count 0) (Ok (record { provplace = unplaced; marks = 0 }))
    (cond (eqb count 3) (start_in option provplace marks)
    (Err NoStart))

-- what was read is what some words say
pub record StartReadRight (read : Result Start StartError) : Type 0 where
  pub count : ℕ
  pub option : List ℕ
  pub provplace : List ℕ
  pub marks : List ℕ
  pub is : read ≡ start_by count option provplace marks
