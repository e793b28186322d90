-- Rows of octets compared several at once: octets as one number, the first the lowest, are the same where the numbers
-- are. Each law is over the width.
-- Assumes nothing.
use Prim.Native.Nat.{ℕ, zero, suc, ◌+◌, ◌*◌, ◌-◌, ◌≤◌, ◌<◌}
use mathlib.Core.Bool.{Bool, true, false, ◌&&◌, and_assoc, and-true, false≢true}
use mathlib.Core.List.{List, [], ◌∷◌, foldr}
use mathlib.Core.Path.{◌≡◌, refl, sym, ap, ◌∙◌}
use native.Mathlib.Nat.{zero-add, suc-add, sub-zero, lt_of_le_of_lt}
use native.Mathlib.Omega.{arith}
use borrow.Author.Tests.{eq-eqb, ne_eqb, eqb-true, eqb-false, ltb-true, le-leb}
use mir.Syntax.{w8}
use mir.Val.{Fits}
use lib.Bits.{bit_and, and_block, and_le_l}
use lib.Dec.{eqb, leb, ltb}
use lib.ListN.{length, get_or, take, drop, length-drop}
use lib.Seq.{slice, get_or-drop, drop-cons, drop-drop, drop-length, take-take, take-nil, length-take-le}
use Rattle.frame.specs.Octets.{same}

-- the octets of a row as one number
abbrev pub low_first : List ℕ → ℕ
low_first row = foldr (λ octet higher. higher * 256 + octet) 0 row

-- so many octets from a place of a row as one number
abbrev pub low_first_at : ℕ → List ℕ → ℕ → ℕ
low_first_at width row place = low_first (take width (drop place row))

-- each is an octet, as the prover tells it of a lent row
abbrev pub Octets : List ℕ → Type 0
Octets row = (place : ℕ) → Fits w8 (get_or row place 0)

-- ---- low_first

-- the lowest octets of two numbers, and what is above them
lowest-same : (one other high higher : ℕ) → one < 256 → other < 256
    → eqb (high * 256 + one) (higher * 256 + other) ≡ (eqb one other && eqb high higher)
lowest-same one other high higher small smaller = go (eqb one other) refl (eqb high higher) refl
  where
    go : (first : Bool) → eqb one other ≡ first
        → (rest : Bool) → eqb high higher ≡ rest
        → eqb (high * 256 + one) (higher * 256 + other) ≡ (first && rest)
    go true first true rest =
        let equal = eqb-true one other first in
        let above = eqb-true high higher rest in
        eq-eqb (high * 256 + one) (higher * 256 + other) (omega arith)
    go true first false rest =
        let equal = eqb-true one other first in
        ne_eqb (high * 256 + one) (higher * 256 + other) (λ whole. eqb-false high higher rest (omega arith))
    go false first _ _ =
        ne_eqb (high * 256 + one) (higher * 256 + other) (λ whole. eqb-false one other first (omega arith))

-- numbers are equal exactly if their octets are the same
pub low_first_same : (one other : List ℕ) → length one ≡ length other → Octets one → Octets other
    → eqb (low_first one) (low_first other) ≡ same one other
unfolding same
low_first_same [] [] _ _ _ = refl
low_first_same [] (y ∷ ys) size _ _ = absurd (omega arith)
low_first_same (x ∷ xs) [] size _ _ = absurd (omega arith)
low_first_same (x ∷ xs) (y ∷ ys) size ones others =
    lowest-same x y (low_first xs) (low_first ys) (ones zero).fits (others zero).fits
    ∙ ap (λ (rest : Bool). eqb x y && rest)
    (low_first_same xs ys (omega arith) (λ place. ones (suc place)) (λ place. others (suc place)))

-- each octet with the bits that its mask keeps
abbrev pub masked : List ℕ → List ℕ → List ℕ
masked [] bits = []
masked (x ∷ xs) [] = []
masked (x ∷ xs) (bit ∷ bits) = bit_and x bit ∷ masked xs bits

pub low_first_masked : (row bits : List ℕ) → length row ≡ length bits → Octets row → Octets bits
    → bit_and (low_first row) (low_first bits) ≡ low_first (masked row bits)
low_first_masked [] [] _ _ _ = refl
low_first_masked [] (bit ∷ bits) size _ _ = absurd (omega arith)
low_first_masked (x ∷ xs) [] size _ _ = absurd (omega arith)
low_first_masked (x ∷ xs) (bit ∷ bits) size octets masks =
    and_block 8 (low_first xs) (low_first bits) x bit (octets zero).fits (masks zero).fits
    ∙ ap (λ (higher : ℕ). higher * 256 + bit_and x bit)
    (low_first_masked xs bits (omega arith) (λ place. octets (suc place)) (λ place. masks (suc place)))

-- ---- low_first, of octets from a place of a row

module _ (row : List ℕ) (place : ℕ) where
  pub low_first_one : place < length row → low_first_at 1 row place ≡ get_or row place 0
  low_first_one inside = rw (drop-cons row place 0) (omega arith)

-- ---- Octets

-- numbers that are written out: the test is computed
abbrev pub are_small : List ℕ → Bool
are_small [] = true
are_small (x ∷ xs) = ltb x 256 && are_small xs

pub octets-small : (row : List ℕ) → are_small row ≡ true → Octets row
octets-small [] _ = λ place. record { fits = omega arith }
octets-small (x ∷ xs) all = go (ltb x 256) refl (octets-small xs) all
  where
    go : (test : Bool) → ltb x 256 ≡ test
        → (are_small xs ≡ true → Octets xs)
        → (test && are_small xs) ≡ true
        → Octets (x ∷ xs)
    go true small _ _ zero = record { fits = ltb-true x 256 small }
    go true _ later rest (suc place) = later rest place
    go false _ _ none _ = absurd (false≢true none)

pub octets-masked : (row bits : List ℕ) → Octets row → Octets (masked row bits)
octets-masked [] bits octets place = octets place
octets-masked (x ∷ xs) [] octets place = record { fits = omega arith }
octets-masked (x ∷ xs) (bit ∷ bits) octets zero =
    record { fits = lt_of_le_of_lt (and_le_l x bit) (octets zero).fits }
octets-masked (x ∷ xs) (bit ∷ bits) octets (suc place) = octets-masked xs bits (λ place. octets (suc place)) place

pub octets-drop : (place : ℕ) (row : List ℕ) → Octets row → Octets (drop place row)
octets-drop place row octets further = rw (get_or-drop place row further 0) (octets (place + further))

pub octets-take : (width : ℕ) (row : List ℕ) → Octets row → Octets (take width row)
octets-take zero row octets place = record { fits = omega arith }
octets-take (suc width) [] octets place = octets place
octets-take (suc width) (x ∷ xs) octets zero = octets zero
octets-take (suc width) (x ∷ xs) octets (suc place) = octets-take width xs (λ place. octets (suc place)) place

-- ---- same

-- the front of two rows, and what is behind it
pub same-split : (width : ℕ) (one other : List ℕ) → width ≤ length one → width ≤ length other
    → same one other ≡ (same (take width one) (take width other) && same (drop width one) (drop width other))
unfolding same
same-split zero one other _ _ = refl
same-split (suc width) [] other long _ = absurd (omega arith)
same-split (suc width) (x ∷ xs) [] _ long = absurd (omega arith)
same-split (suc width) (x ∷ xs) (y ∷ ys) long longer =
    rw (same-split width xs ys (omega arith) (omega arith)) (sym (and_assoc (eqb x y) _ _))

-- a part from a place on
pub drop-take : (place width : ℕ) (row : List ℕ) → drop place (take (place + width) row) ≡ take width (drop place row)
drop-take zero width row = rw (zero-add width)
drop-take (suc place) width [] = rw (suc-add place width) (sym (take-nil width))
drop-take (suc place) width (x ∷ xs) = rw (suc-add place width) (drop-take place width xs)

-- where so many octets are there, they are a part of the row
pub part-inside : (row wanted : List ℕ) (place : ℕ) → place + length wanted ≤ length row
    → (leb (place + length wanted) (length row) && same (take (length wanted) (drop place row)) wanted)
    ≡ same (slice place (place + length wanted) row) wanted
part-inside row wanted place inside =
    rw (le-leb (place + length wanted) (length row) inside, drop-take place (length wanted) row)

-- ---- the rest of a row that is looked for

-- whether the octets from a place on are the rest of a row from a start on
abbrev pub has_rest : List ℕ → List ℕ → ℕ → ℕ → Bool
has_rest row wanted place start = same (take (length wanted - start) (drop place row)) (drop start wanted)

pub has_rest-all : (row wanted : List ℕ) (place : ℕ)
    → has_rest row wanted place 0 ≡ same (take (length wanted) (drop place row)) wanted
has_rest-all row wanted place = rw (sub-zero (length wanted))

pub has_rest-end : (row wanted : List ℕ) (place start : ℕ) → start ≡ length wanted
    → has_rest row wanted place start ≡ true
unfolding same
has_rest-end row wanted place start end =
    let none : length wanted - start ≡ 0 = omega arith in
    rw (none, end, drop-length wanted)

module _ (row wanted : List ℕ) (octets : Octets row) (sought : Octets wanted) (place start : ℕ) where
  -- so many octets are compared as two numbers
  pub has_rest_several : (width : ℕ) → start + width ≤ length wanted → place + (length wanted - start) ≤ length row
      → has_rest row wanted place start
      ≡ (eqb (low_first_at width row place) (low_first_at width wanted start)
      && has_rest row wanted (place + width) (start + width))
  has_rest_several width inside fits =
      let left : length wanted - start ≡ width + (length wanted - (start + width)) = omega arith in
      let found : length (take width (drop place row)) ≡ width =
      length-take-le width (drop place row) (omega (arith, length-drop place row)) in
      let wide : length (take width (drop start wanted)) ≡ width =
      length-take-le width (drop start wanted) (omega (arith, length-drop start wanted)) in
      let all : length (take (length wanted - start) (drop place row)) ≡ length wanted - start =
      length-take-le (length wanted - start) (drop place row) (omega (arith, length-drop place row)) in
      same-split width (take (length wanted - start) (drop place row)) (drop start wanted)
      (omega arith) (omega (arith, length-drop start wanted))
      ∙ rw (
        take-take width (length wanted - start) (drop place row) (omega arith),
        low_first_same (take width (drop place row)) (take width (drop start wanted)) (found ∙ sym wide)
            (octets-take width (drop place row) (octets-drop place row octets))
            (octets-take width (drop start wanted) (octets-drop start wanted sought)),
        left,
        drop-take width (length wanted - (start + width)) (drop place row),
        drop-drop width place row,
        drop-drop width start wanted,
      )

  -- the last ones, and then nothing is left
  pub has_rest-last : (width : ℕ) → start + width ≡ length wanted → place + width ≤ length row
      → has_rest row wanted place start ≡ eqb (low_first_at width row place) (low_first_at width wanted start)
  has_rest-last width last fits =
      has_rest_several width (omega arith) (omega arith)
      ∙ rw (has_rest-end row wanted (place + width) (start + width) last) (and-true _)
