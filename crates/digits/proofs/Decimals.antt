-- Decimal text: it is the number's, twenty places are enough, and what holds at each turn of `decimal`.
-- Assumes nothing.
use Prim.Native.Nat.{ℕ, zero, suc, ◌+◌, ◌*◌, ◌-◌, ◌/◌, ◌%◌, ◌<◌, ◌≤◌}
use mathlib.Core.Bool.{Bool, true, false, cond}
use mathlib.Core.List.{List, [], ◌∷◌, ◌++◌}
use mathlib.Core.Path.{◌≡◌, refl, ap, sym, ◌∙◌}
use native.Mathlib.Omega.{arith}
use borrow.Author.Tests.{ltb-false, lt-ltb, le-ltb}
use lib.Dec.{ltb}
use lib.ListN.{length, take, drop, get_or, set, replicate, length-set, length-drop, length-replicate}
use lib.Seq.{take-take, take_at, drop_at, set_split}
use Rattle.digits.specs.declared.decimal.DecimalText.{DecimalText}
use Rattle.digits.specs.Digits.{numeral0}
use Rattle.digits.specs.Decimal.{decimal_places, decimal_with, decimal_of, decimal, decimal_value, InDecimal}

-- what so many places hold is below this power of ten
unfoldable pub tens : ℕ → ℕ
tens zero = 1
tens (suc places) = 10 * tens places

tens-tenth : (places number : ℕ) → number < tens (suc places) → number / 10 < tens places
unfolding tens
tens-tenth places number below = omega arith

-- ---- decimal_with

module _ (places number : ℕ) (text : List ℕ) where
  decimal_with-small : number < 10 → decimal_with (suc places) number text ≡ (numeral0 + number) ∷ text
  unfolding decimal_with
  decimal_with-small small = rw (lt-ltb number 10 small)

  decimal_with_large : 10 ≤ number
      → decimal_with (suc places) number text ≡ decimal_with places (number / 10) ((numeral0 + number % 10) ∷ text)
  unfolding decimal_with
  decimal_with_large large = rw (le-ltb number 10 large)

-- its digits stand for the number
decimal_with-value : (places number : ℕ) (text : List ℕ) → number < tens places
    → decimal_value 0 (decimal_with places number text) ≡ decimal_value number text
unfolding decimal_with tens decimal_value
decimal_with-value zero number text below =
    let none : 0 ≡ number = omega arith in
    ap (λ (passed : ℕ). decimal_value passed text) none
decimal_with-value (suc places) number text below =
    let longer : List ℕ = (numeral0 + number % 10) ∷ text in
    go (ltb number 10) (decimal_with-value places (number / 10) longer (tens-tenth places number below))
  where
    go : (small : Bool)
        → decimal_value 0 (decimal_with places (number / 10) ((numeral0 + number % 10) ∷ text))
        ≡ decimal_value (number / 10) ((numeral0 + number % 10) ∷ text)
        → decimal_value 0
        (cond small ((numeral0 + number) ∷ text) (decimal_with places (number / 10) ((numeral0 + number % 10) ∷ text)))
        ≡ decimal_value number text
    go true later =
        let same : 0 * 10 + (numeral0 + number - numeral0) ≡ number = omega arith in
        ap (λ (passed : ℕ). decimal_value passed text) same
    go false later =
        let whole : number / 10 * 10 + (numeral0 + number % 10 - numeral0) ≡ number = omega arith in
        later ∙ ap (λ (passed : ℕ). decimal_value passed text) whole

-- none of them is a leading zero
decimal_with-first : (places number : ℕ) (text : List ℕ) → number < tens places → 0 < number
    → numeral0 < get_or (decimal_with places number text) 0 0
unfolding decimal_with tens
decimal_with-first zero number text below some = absurd (omega arith)
decimal_with-first (suc places) number text below some =
    let longer : List ℕ = (numeral0 + number % 10) ∷ text in
    go (ltb number 10) refl (decimal_with-first places (number / 10) longer (tens-tenth places number below))
  where
    go : (small : Bool) → ltb number 10 ≡ small
        → (0 < number / 10 → numeral0 < get_or (decimal_with places (number / 10) ((numeral0 + number % 10) ∷ text)) 0 0)
        → numeral0
        < get_or
        (cond small ((numeral0 + number) ∷ text) (decimal_with places (number / 10) ((numeral0 + number % 10) ∷ text)))
        0
        0
    go true test later = omega arith
    go false test later =
        let large = ltb-false number 10 test in
        later (omega arith)

-- they are no more than the places that hold it
decimal_with-length : (most places number : ℕ) (text : List ℕ) → number < tens (suc places)
    → length (decimal_with most number text) ≤ suc places + length text
unfolding decimal_with tens
decimal_with-length zero places number text below = omega arith
decimal_with-length (suc most) zero number text below = rw (lt-ltb number 10 (omega arith)) (omega arith)
decimal_with-length (suc most) (suc places) number text below =
    let longer : List ℕ = (numeral0 + number % 10) ∷ text in
    go (ltb number 10) (decimal_with-length most places (number / 10) longer (tens-tenth (suc places) number below))
  where
    go : (small : Bool)
        → length (decimal_with most (number / 10) ((numeral0 + number % 10) ∷ text)) ≤ suc places + suc (length text)
        → length
        (cond small ((numeral0 + number) ∷ text) (decimal_with most (number / 10) ((numeral0 + number % 10) ∷ text)))
        ≤ suc (suc places) + length text
    go true later = omega arith
    go false later = omega arith

-- ---- decimal_of

pub decimal_of-length : (places number : ℕ) → number < tens (suc places) → length (decimal_of number) ≤ suc places
unfolding decimal_of
decimal_of-length places number below = omega (arith, decimal_with-length decimal_places places number [] below)

-- every number of 64 bits is below ten to the twentieth
pub places-enough : (number : ℕ) → number < 18446744073709551616 → number < tens decimal_places
unfolding tens
places-enough number below = omega arith

pub decimal_of-right : (number : ℕ) → number < 18446744073709551616 → InDecimal number (decimal_of number)
unfolding decimal_of decimal_value
decimal_of-right number below =
    let held = places-enough number below in
    record {
      value = decimal_with-value decimal_places number [] held;
      first = decimal_with-first decimal_places number [] held;
    }

-- ---- decimal

-- what holds at each turn: the digits of the rest go before those that stand from the start on
pub record SoFar (number : ℕ) (text : List ℕ) (start rest : ℕ) : Type 0 where
  pub size : length text ≡ decimal_places
  pub some : 0 < start
  pub within : start ≤ decimal_places
  pub below : rest < tens start
  pub front : take start text ≡ replicate start 0
  pub digits : decimal_of number ≡ decimal_with start rest (drop start text)

pub so_far_start : (number : ℕ) → number < 18446744073709551616
    → SoFar number (replicate decimal_places 0) decimal_places number
unfolding decimal_of
so_far_start number below =
    record {
      size = refl;
      some = omega arith;
      within = omega arith;
      below = places-enough number below;
      front = refl;
      digits = refl;
    }

take_replicate : (count : ℕ) → take count (replicate {A = ℕ} (suc count) 0) ≡ replicate count 0
take_replicate zero = refl
take_replicate (suc count) = ap (λ (zeros : List ℕ). 0 ∷ zeros) (take_replicate count)

module _ (number : ℕ) (text : List ℕ) (start rest : ℕ) (so_far : SoFar number text start rest) where
  abbrev place : ℕ
  place = start - 1

  next : start ≡ suc place
  next = omega (arith, so_far.some)

  size : length (replicate {A = ℕ} place 0) ≡ place
  size = length-replicate place 0

  zeros : take place text ≡ replicate place 0
  zeros =
      sym (take-take place start text (omega arith)) ∙ ap (take place) so_far.front ∙
      ap (λ (count : ℕ). take place (replicate count 0)) next ∙ take_replicate place

  -- a digit put before those that stand
  put : (digit : ℕ) → set text place digit ≡ replicate place 0 ++ digit ∷ drop start text
  put digit =
      set_split text place digit (omega (arith, so_far.size, so_far.within, next)) ∙
      ap (λ (before : List ℕ). before ++ digit ∷ drop (suc place) text) zeros ∙
      ap (λ (count : ℕ). replicate place 0 ++ digit ∷ drop count text) (sym next)

  digits : decimal_of number ≡ decimal_with (suc place) rest (drop start text)
  digits = so_far.digits ∙ ap (λ (count : ℕ). decimal_with count rest (drop start text)) next

  below : rest < tens (suc place)
  below = rw (← next) so_far.below

  pub so_far_next : (digit : ℕ) → 10 ≤ rest → digit ≡ numeral0 + rest % 10
      → SoFar number (set text place digit) place (rest / 10)
  unfolding tens
  so_far_next digit large is =
      record {
        size = length-set text place digit ∙ so_far.size;
        some = more place below;
        within = omega (arith, so_far.within);
        below = tens-tenth place rest below;
        front = rw (put digit, take_at (replicate place 0) (digit ∷ drop start text) place size);
        digits =
            rw (put digit, drop_at (replicate place 0) (digit ∷ drop start text) place size, is)
            (digits ∙ decimal_with_large place rest (drop start text) large);
      }
    where
      more : (place : ℕ) → rest < tens (suc place) → 0 < place
      more zero below = absurd (omega arith)
      more (suc place) below = omega arith

  pub so_far_end : (digit : ℕ) → rest < 10 → digit ≡ numeral0 + rest
      → ◌≡◌ {A = DecimalText} (record { text = set text place digit; start = place }) (decimal number)
  unfolding decimal
  so_far_end digit small is =
      let written : decimal_of number ≡ digit ∷ drop start text =
      digits ∙ decimal_with-small place rest (drop start text) small ∙ (rw is) in
      let left : decimal_places - length (decimal_of number) ≡ place =
      rw written (omega (arith, length-drop start text, so_far.size, so_far.within, next)) in
      rw (left, written, put digit)

-- ---- few digits

-- of a number below 1,000: at most three digits
pub decimal_of-three : (number : ℕ) → number < 1000 → length (decimal_of number) ≤ 3
unfolding tens
decimal_of-three number below = decimal_of-length 2 number below
