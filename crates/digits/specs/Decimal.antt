-- Numbers in decimal, as counts and line numbers are written. Cited by `src/decimal.rt`. A character is its number in
-- ASCII. Assumes nothing.
use Rattle.std.specs.Prelude.{ℕ, zero, suc, ◌+◌, ◌*◌, ◌-◌, ◌/◌, ◌%◌, ◌<◌, cond, List, [], ◌∷◌, ◌++◌, ◌≡◌, ltb, length, get_or, replicate}
use Rattle.digits.specs.declared.decimal.DecimalText.{DecimalText}
use Rattle.digits.specs.Digits.{numeral0}

-- so many places hold every number of 64 bits: 2^64 is below 10^20
abbrev pub decimal_places : ℕ
decimal_places = 20

-- a number's digits, the last first, put before a text; no more than so many places
unfoldable pub decimal_with : ℕ → ℕ → List ℕ → List ℕ
decimal_with zero number text = text
decimal_with (suc places) number text =
    let more = decimal_with places (number / 10) ((numeral0 + number % 10) ∷ text) in
    cond (ltb number 10) ((numeral0 + number) ∷ text) more

-- a number in decimal, with no leading zeros
unfoldable pub decimal_of : ℕ → List ℕ
decimal_of number = decimal_with decimal_places number []

-- the same at the end of the places, and where it starts; zeros stand before it
unfoldable pub decimal : ℕ → DecimalText
decimal number =
    let start = decimal_places - length (decimal_of number) in
    record { text = replicate start 0 ++ decimal_of number; start = start }

-- the number that decimal digits stand for, behind a number that was passed
unfoldable pub decimal_value : ℕ → List ℕ → ℕ
decimal_value passed [] = passed
decimal_value passed (digit ∷ rest) = decimal_value (passed * 10 + (digit - numeral0)) rest

-- a text is a number in decimal: it stands for it, and has no leading zero
pub record InDecimal (number : ℕ) (text : List ℕ) : Type 0 where
  pub value : decimal_value 0 text ≡ number
  pub first : 0 < number → numeral0 < get_or text 0 0
