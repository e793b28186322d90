-- The parts of a line, and what each way through the code's reading of them gives. Assumes nothing.
use Prim.Native.Nat.{ℕ, ◌+◌, ◌-◌, ◌%◌, ◌^◌, ◌≤◌, ◌<◌}
use mathlib.Core.Bool.{Bool, true, false, not, ◌&&◌, cond}
use mathlib.Core.List.{List, [], ◌∷◌}
use mathlib.Core.Path.{◌≡◌, refl, sym, ◌∙◌, ap}
use native.Mathlib.Numerals.{add-one}
use native.Mathlib.Omega.{arith}
use mir.Val.{Fits}
use mir.Syntax.{w64}
use lib.Dec.{eqb, leb, ltb}
use lib.ListN.{length, get_or, take, drop, length-drop, drop_of_length-le}
use lib.Seq.{drop-cons}
use borrow.Author.Tests.{eqb-true, eqb-false, leb-true, leb-false, eq-eqb, ne_eqb, lt-ltb, le-ltb, le-leb, lt-leb}
use Rattle.digits.specs.Decimal.{decimal_value}
use Rattle.digits.specs.Digits.{all_digits, space}
use Rattle.numbers.proofs.Truth.{by_bool}
use Rattle.std.specs.Prelude.{Option, None, Some}
use Rattle.text.specs.Text.{read_number}
use Rattle.questions.specs.Line.{dash, part_length, first_part, has_more, number_said, is_number, is_source, part_end, part_at, read_part}

-- ---- part_end

module _ (text : List ℕ) (place : ℕ) where
  pub part_end-next : place < length text → (get_or text place 0 ≡ space → ⊥)
      → part_end text (place + 1) ≡ part_end text place
  unfolding part_length
  part_end-next inside other = rw (drop-cons text place 0, ne_eqb _ _ other, add-one) (omega arith)

  pub part_end-space : place < length text → get_or text place 0 ≡ space → place ≡ part_end text place
  unfolding part_length
  part_end-space inside here = rw (drop-cons text place 0, eq-eqb _ _ here) (omega arith)

  pub part_end-over : length text ≤ place → place ≡ part_end text place
  unfolding part_length
  part_end-over over = rw (drop_of_length-le text over) (omega arith)

pub part_length_le : (text : List ℕ) → part_length text ≤ length text
unfolding part_length
part_length_le [] = omega arith
part_length_le (character ∷ rest) =
    by_bool (eqb character space)
    (λ here. rw here (omega arith))
    (λ other. rw other (omega (arith, part_length_le rest)))

pub part_end_le : (text : List ℕ) (start : ℕ) → start ≤ length text → part_end text start ≤ length text
part_end_le text start inside = omega (arith, part_length_le (drop start text), length-drop start text)

-- ---- is_source

module _ (text : List ℕ) where
  pub is_source-dash : length text ≡ 1 → eqb (get_or text 0 0) dash ≡ is_source text
  unfolding is_source
  is_source-dash one = rw (eq-eqb _ _ one)

  pub is_source-short : (length text ≡ 1 → ⊥) → length text < 2 → false ≡ is_source text
  unfolding is_source
  is_source-short other short = rw (ne_eqb _ _ other, lt-leb _ _ short)

  pub is_source-long : (length text ≡ 1 → ⊥) → 2 ≤ length text → 64 < length text → false ≡ is_source text
  unfolding is_source
  is_source-long other some long = rw (ne_eqb _ _ other, le-leb _ _ some, lt-leb _ _ long)

  pub is_source_odd : (length text ≡ 1 → ⊥) → 2 ≤ length text → length text ≤ 64 → (length text % 2 ≡ 0 → ⊥)
      → false ≡ is_source text
  unfolding is_source
  is_source_odd other some fits odd = rw (ne_eqb _ _ other, le-leb _ _ some, le-leb _ _ fits, ne_eqb _ _ odd)

  pub is_source-digits : (answer : Bool) → (length text ≡ 1 → ⊥) → 2 ≤ length text → length text ≤ 64
      → length text % 2 ≡ 0 → answer ≡ all_digits text
      → answer ≡ is_source text
  unfolding is_source
  is_source-digits answer other some fits even all =
      all ∙ (rw (ne_eqb _ _ other, le-leb _ _ some, le-leb _ _ fits, eq-eqb _ _ even))

pub ruleset isSource-laws = (is_source-dash, is_source-short, is_source-long, is_source_odd, is_source-digits)

-- ---- read_part

-- "below 2^64": the largest number that is asked for
abbrev largest : ℕ
largest = 18446744073709551615

abbrev read_into : List ℕ → Option ℕ
read_into part = read_number part largest

some_tests : (count : ℕ) → ltb 0 count ≡ not (eqb count 0)
some_tests count =
    by_bool (eqb count 0)
    (λ none. rw none (le-ltb 0 count (omega (arith, eqb-true count 0 none))))
    (λ some. rw some (lt-ltb 0 count (omega (arith, eqb-false count 0 some))))

small_tests : (value : ℕ) → leb value largest ≡ ltb value (2 ^ 64)
small_tests value =
    by_bool (leb value largest)
    (λ is. is ∙ sym (lt-ltb value (2 ^ 64) (omega (arith, leb-true value largest is))))
    (λ over. over ∙ sym (le-ltb value (2 ^ 64) (omega (arith, leb-false value largest over))))

-- a number that is read is one by the paper, and no other is
number_read : (part : List ℕ) → read_into part ≡ cond (is_number part) (Some (number_said part)) None
unfolding read_number is_number
number_read part = rw (some_tests (length part), small_tests (decimal_value 0 part))

is_number_not : (part : List ℕ) → None ≡ read_into part → is_number part ≡ false
is_number_not part none =
    by_bool (is_number part)
    (λ is. let wrong : None ≡ Some (number_said part) = rw (number_read part, is) at none in cc)
    (λ not. not)

pub record Says (part : List ℕ) (value : ℕ) : Type 0 where
  pub number : is_number part ≡ true
  pub decimal : value ≡ number_said part

is_number_is : (part : List ℕ) (value : ℕ) → Some value ≡ read_into part → Says part value
is_number_is part value told =
    by_bool (is_number part)
    (λ is.
    let same : Some value ≡ Some (number_said part) = rw (number_read part, is) at told in
    record { number = is; decimal = cc })
    (λ other. let wrong : Some value ≡ None = rw (number_read part, other) at told in cc)

module _ (line : List ℕ) (start : ℕ) (inside : start ≤ length line) where
  -- a part that no space ends
  pub read_part-last : (end : ℕ) → end ≡ part_end line start → end ≡ length line → None ≡ read_part line start
  unfolding read_part
  read_part-last end found over =
      let all : length (drop start line) ≤ part_length (drop start line) = omega (arith, length-drop start line) in
      rw (le-ltb (part_length (drop start line)) (length (drop start line)) all)
      (go (is_number (first_part (drop start line))))
    where
      go : (test : Bool)
          → None ≡ cond (test && false) (Some (part_at line start)) None
      go true = refl
      go false = refl

  module _ (end : ℕ) (found : end ≡ part_end line start) (more : end ≡ length line → ⊥) where
    pub part-within : end ≤ length line
    part-within = omega (arith, part_end_le line start inside)

    pub part-after : start ≤ end
    part-after = omega arith

    pub next_fits : end + 1 ≤ length line
    next_fits = omega (arith, part_end_le line start inside)

    pub next_small : length line < 2 ^ 64 → Fits w64 (end + 1)
    next_small small = record { fits = omega (arith, next_fits) }

    part-is : take (end - start) (drop start line) ≡ first_part (drop start line)
    part-is = let size : end - start ≡ part_length (drop start line) = omega arith in rw size

    has_more_lem : has_more (drop start line) ≡ true
    has_more_lem =
        lt-ltb (part_length (drop start line)) (length (drop start line))
        (omega (arith, length-drop start line, part_end_le line start inside))

    pub read_part-other : None ≡ read_into (take (end - start) (drop start line)) → None ≡ read_part line start
    unfolding read_part
    read_part-other none = rw (is_number_not (first_part (drop start line)) (none ∙ ap read_into part-is))

    pub read_part-number : (value : ℕ) → Some value ≡ read_into (take (end - start) (drop start line))
        → Some (record { value = value; next = end + 1 }) ≡ read_part line start
    unfolding read_part
    read_part-number value number =
        let says = is_number_is (first_part (drop start line)) value (number ∙ ap read_into part-is) in
        rw (says.number, has_more_lem, says.decimal, found)

pub ruleset readPart-laws = (read_part-last, part-within, next_small)
