-- What the definitions of `specs/Start` come to, way by way. Assumes nothing.
use Prim.Native.Nat.{ℕ, ◌+◌, ◌*◌, ◌<◌, ◌≤◌}
use mathlib.Core.Bool.{Bool, true, false, ◌&&◌}
use Rattle.std.specs.List.{list_all}
use Rattle.std.specs.Char.{is_ascii_digit}
use mathlib.Core.List.{List, [], ◌∷◌}
use mathlib.Core.Path.{◌≡◌, refl, sym, ap, ◌∙◌}
use native.Mathlib.Numerals.{add-one}
use native.Mathlib.Omega.{arith}
use borrow.Author.Tests.{eqb-true, eq-eqb, ne_eqb, le-leb, lt-leb, lt-ltb, leb-false, not-true, not-false}
use lib.Dec.{eqb, leb, ltb}
use lib.ListN.{length, get_or, drop, drop_of_length-le}
use lib.Seq.{drop-cons}
use Rattle.numbers.specs.declared.profile.ProvPlace.{ProvPlace}
use Rattle.numbers.specs.Refusal.{accepted}
use Rattle.numbers.specs.Profile.{option_two, unplaced, prov_place_in, last_prov_place, start_number}
use Rattle.numbers.proofs.Truth.{by_bool}
use Rattle.digits.specs.Digits.{numeral0, numeral9, is_between, is_numeral, all_digits, digit_value, all_numerals}
use Rattle.digits.specs.Decimal.{decimal_value}
use Rattle.digits.proofs.Runs.{and_parts}
use Rattle.std.specs.Prelude.{None, Some, Result, Err}
use Rattle.text.specs.Text.{read_number}
use Rattle.start.specs.declared.Start.{Start}
use Rattle.start.specs.declared.StartError.{StartError}
use Rattle.start.specs.declared.StartError.TheVariants.{Refused}
use Rattle.start.specs.Start.{numeral2, is_option_word, is_decimal, is_marks, digits_value, start_of, start_in, start_by}

-- ---- is_decimal

numerals-all : (word : List ℕ) → list_all is_ascii_digit word ≡ all_numerals word
unfolding all_numerals is_numeral is_between
numerals-all [] = refl
numerals-all (c ∷ cs) = ap (λ (rest : Bool). is_ascii_digit c && rest) (numerals-all cs)

-- of a word that is not empty
pub decimal-by : (word : List ℕ) (answer : Bool) → 0 < length word
    → answer ≡ list_all is_ascii_digit word
    → answer ≡ is_decimal word
decimal-by word answer some all = all ∙ numerals-all word ∙ (rw (lt-ltb 0 (length word) some))

-- ---- digits_value

-- the number of four digits, by their two octets
pub four-value : (word : List ℕ) (upper lower : ℕ) → length word ≡ 4
    → upper ≡ digit_value (get_or word 0 0) * 16 + digit_value (get_or word 1 0)
    → lower ≡ digit_value (get_or word 2 0) * 16 + digit_value (get_or word 3 0)
    → upper * 256 + lower ≡ digits_value 0 word
unfolding digits_value
four-value [] upper lower four one other = absurd (omega (arith, four))
four-value (w ∷ []) upper lower four one other = absurd (omega (arith, four))
four-value (w ∷ x ∷ []) upper lower four one other = absurd (omega (arith, four))
four-value (w ∷ x ∷ y ∷ []) upper lower four one other = absurd (omega (arith, four))
four-value (w ∷ x ∷ y ∷ z ∷ []) upper lower four one other = omega (arith, one, other)
four-value (w ∷ x ∷ y ∷ z ∷ v ∷ rest) upper lower four one other = absurd (omega (arith, four))

-- ---- start_of

-- a place above 255 is above 8
start_of_above : (provplace marks : ℕ) → last_prov_place < provplace → Err Refused ≡ start_of provplace marks
unfolding start_number
start_of_above provplace marks above = rw (lt-ltb last_prov_place provplace above)

module _ (provplace : List ℕ) (marks most : ℕ) (decimal : is_decimal provplace ≡ true) where
  -- a number that is not read is too large
  pub number-above : None ≡ read_number provplace most → most < decimal_value 0 provplace
  unfolding read_number
  number-above none =
      by_bool (leb (decimal_value 0 provplace) most)
      (λ fits.
      let parts = and_parts (ltb 0 (length provplace)) (all_numerals provplace) decimal in
      let wrong : None ≡ Some (decimal_value 0 provplace) = rw (parts.0, parts.1, fits) at none in
      cc)
      (λ over. leb-false (decimal_value 0 provplace) most over)

  pub place-above : None ≡ read_number provplace most → last_prov_place ≤ most
      → Err Refused ≡ start_of (decimal_value 0 provplace) marks
  place-above none enough = start_of_above (decimal_value 0 provplace) marks (omega (arith, number-above none))

  pub place_is : (number : ℕ) → Some number ≡ read_number provplace most → number ≡ decimal_value 0 provplace
  unfolding read_number
  place_is number reads =
      let parts = and_parts (ltb 0 (length provplace)) (all_numerals provplace) decimal in
      by_bool (leb (decimal_value 0 provplace) most)
      (λ fits.
      let same : Some number ≡ Some (decimal_value 0 provplace) = rw (parts.0, parts.1, fits) at reads in
      cc)
      (λ over.
      let wrong : Some number ≡ None = rw (parts.0, parts.1, over) at reads in
      cc)

  pub place_start : (start : Result Start StartError) (number : ℕ) → Some number ≡ read_number provplace most
      → start ≡ start_of number marks
      → start ≡ start_of (decimal_value 0 provplace) marks
  place_start start number reads is = is ∙ ap (λ (value : ℕ). start_of value marks) (place_is number reads)
