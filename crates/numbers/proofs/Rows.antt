-- Rows of the table of refusals: of rows in rising order the first that applies is the smallest. Assumes nothing.
use Prim.Native.Nat.{ℕ, suc, ◌≤◌, ◌<◌}
use mathlib.Core.Bool.{Bool, true, false, not, ◌&&◌, cond, true≢false, false≢true}
use mathlib.Core.List.{List, [], ◌∷◌, ◌++◌}
use mathlib.Core.Logic.{◌⊎◌, inl, inr, ⊎_elim, ◌↔◌, ◌≢◌}
use mathlib.Core.Path.{◌≡◌, refl, sym, ◌∙◌, ap, subst}
use native.Mathlib.Omega.{arith}
use lib.Dec.{eqb, leb}
use borrow.Author.Tests.{ne_eqb, eqb-true, eqb-false, leb-true}
use Rattle.numbers.specs.Refusal.{accepted}
use Rattle.numbers.specs.Rows.{Refusal, refusal, first_that_applies, NoneApplies, RowApplies, SmallestRow}
use Rattle.numbers.proofs.Truth.{by_bool}

-- ---- first_that_applies

-- a row that applies has a number
abbrev pub Numbered : List Refusal → Type 0
Numbered [] = Unit {0}
Numbered (row ∷ rows) = (row.applies ≡ true → row.number ≡ accepted → ⊥) × Numbered rows

-- nothing is given where no row applies, and only there
pub none-given : (rows : List Refusal) → NoneApplies rows → first_that_applies rows ≡ accepted
unfolding first_that_applies
none-given [] none = refl
none-given (row ∷ rows) none = rw none.0 (none-given rows none.1)

pub given-none : (rows : List Refusal) → Numbered rows → first_that_applies rows ≡ accepted → NoneApplies rows
unfolding first_that_applies
given-none [] numbered none = tt
given-none (row ∷ rows) numbered none =
    by_bool row.applies
    (λ e. let k : row.number ≡ accepted = rw e at none in absurd (numbered.0 e k))
    (λ e. let k : first_that_applies rows ≡ accepted = rw e at none in (e, given-none rows numbered.1 k))

pub none-applies : (other : ℕ) (rows : List Refusal) → NoneApplies rows → RowApplies other rows → ⊥
none-applies other [] none applies = applies
none-applies other (row ∷ rows) none (inl here) = true≢false (sym here.0 ∙ none.0)
none-applies other (row ∷ rows) none (inr later) = none-applies other rows none.1 later

-- the later rows are asked where none of the first applies
pub first-append : (rows later : List Refusal) → Numbered rows
    → first_that_applies (rows ++ later) ≡
    cond (not (eqb (first_that_applies rows) accepted)) (first_that_applies rows) (first_that_applies later)
unfolding first_that_applies
first-append [] later numbered = refl
first-append (row ∷ rows) later numbered =
    by_bool row.applies
    (λ e. rw (e, ne_eqb row.number accepted (numbered.0 e)))
    (λ e. rw e (first-append rows later numbered.1))

-- where nothing is given, none of the first applies
pub given-none-first : (rows later : List Refusal) → Numbered rows → first_that_applies (rows ++ later) ≡ accepted
    → NoneApplies rows
unfolding first_that_applies
given-none-first [] later numbered none = tt
given-none-first (row ∷ rows) later numbered none =
    by_bool row.applies
    (λ e. let k : row.number ≡ accepted = rw e at none in absurd (numbered.0 e k))
    (λ e.
    let k : first_that_applies (rows ++ later) ≡ accepted = rw e at none in
    (e, given-none-first rows later numbered.1 k))

-- later rows that give the same give the same after others
pub first-same : (rows one other : List Refusal) → first_that_applies one ≡ first_that_applies other
    → first_that_applies (rows ++ one) ≡ first_that_applies (rows ++ other)
unfolding first_that_applies
first-same [] one other same = same
first-same (row ∷ rows) one other same =
    ap (λ (rest : ℕ). cond row.applies row.number rest) (first-same rows one other same)

-- a row that applies where its number is not 0 gives its number
pub first-own : (number : ℕ) → first_that_applies (refusal number (not (eqb number accepted)) ∷ []) ≡ number
unfolding first_that_applies
first-own number = by_bool (eqb number accepted) (λ e. rw e (sym (eqb-true number accepted e))) (λ e. rw e)

-- ---- rows in rising order

-- each row's number is at least a bound, and larger than that of the row before it
abbrev pub is_rising : ℕ → List Refusal → Bool
is_rising bound [] = true
is_rising bound (row ∷ rows) = leb bound row.number && is_rising (suc row.number) rows

-- the number of the first is at least the bound, and the others rise further
rising-first : (bound : ℕ) (row : Refusal) (rows : List Refusal) → is_rising bound (row ∷ rows) ≡ true
    → bound ≤ row.number
rising-first bound row rows rising =
    by_bool (leb bound row.number) (leb-true _ _) (λ e. absurd (false≢true (rw e at rising)))

rising-rest : (bound : ℕ) (row : Refusal) (rows : List Refusal) → is_rising bound (row ∷ rows) ≡ true
    → is_rising (suc row.number) rows ≡ true
rising-rest bound row rows rising =
    by_bool (leb bound row.number) (λ e. rw e at rising) (λ e. absurd (false≢true (rw e at rising)))

-- a row that applies has at least the bound
pub rising-least : (bound other : ℕ) (rows : List Refusal) → is_rising bound rows ≡ true → RowApplies other rows
    → bound ≤ other
rising-least bound other [] rising applies = absurd applies
rising-least bound other (row ∷ rows) rising (inl here) = omega (arith, rising-first bound row rows rising, here.1)
rising-least bound other (row ∷ rows) rising (inr later) =
    omega (
      arith,
      rising-first bound row rows rising,
      rising-least (suc row.number) other rows (rising-rest bound row rows rising) later,
    )

pub rising-numbered : (bound : ℕ) (rows : List Refusal) → 0 < bound → is_rising bound rows ≡ true → Numbered rows
rising-numbered bound [] some rising = tt
rising-numbered bound (row ∷ rows) some rising = (
  λ a e. omega (arith, rising-first bound row rows rising),
  rising-numbered (suc row.number) rows (omega arith) (rising-rest bound row rows rising),
)

-- the first row that applies has the smallest number that does
pub first-smallest : (bound : ℕ) (rows : List Refusal) → is_rising bound rows ≡ true
    → SmallestRow (first_that_applies rows) rows ⊎ NoneApplies rows
unfolding first_that_applies
first-smallest bound [] rising = inr tt
first-smallest bound (row ∷ rows) rising =
    by_bool row.applies
    (λ e.
    let f : first_that_applies (row ∷ rows) ≡ row.number = rw e refl in
    inl (subst (λ (number : ℕ). SmallestRow number (row ∷ rows)) (sym f) (here e)))
    (λ e.
    let f : first_that_applies (row ∷ rows) ≡ first_that_applies rows = rw e refl in
    ⊎_elim (λ first. inl (subst (λ (number : ℕ). SmallestRow number (row ∷ rows)) (sym f) (there e first)))
    (λ none. inr (e, none))
    (first-smallest (suc row.number) rows rest))
  where
    rest : is_rising (suc row.number) rows ≡ true
    rest = rising-rest bound row rows rising

    here : row.applies ≡ true → SmallestRow row.number (row ∷ rows)
    here e =
        record {
          applies = inl (e, refl);
          least = λ other. elim [
            | inl a ↦ omega (arith, a.1)
            | inr a ↦ omega (arith, rising-least (suc row.number) other rows rest a)
          ];
        }

    there : row.applies ≡ false → SmallestRow (first_that_applies rows) rows
        → SmallestRow (first_that_applies rows) (row ∷ rows)
    there e first =
        record {
          applies = inr first.applies;
          least = λ other. elim [ inl a ↦ absurd (true≢false (sym a.0 ∙ e)) | inr a ↦ first.least other a ];
        }

module _ (bound : ℕ) (rows : List Refusal) (some : 0 < bound) (rising : is_rising bound rows ≡ true) where
  -- a number is the smallest that applies, or none applies
  pub smallest_or_none : ((number : ℕ) × SmallestRow number rows) ⊎ NoneApplies rows
  smallest_or_none =
      ⊎_elim (λ first. inl (first_that_applies rows, first)) (λ none. inr none) (first-smallest bound rows rising)

  -- nothing is given exactly where no row applies
  pub none-exact : (first_that_applies rows ≡ accepted) ↔ NoneApplies rows
  none-exact = (given-none rows (rising-numbered bound rows some rising), none-given rows)

  -- a number that applies is not 0
  pub applies-numbered : (number : ℕ) → RowApplies number rows → number ≢ accepted
  applies-numbered number applies e = omega (arith, some, rising-least bound number rows rising applies)

  -- "The smallest number that applies is given", and exactly there
  pub smallest-exact : (number : ℕ) → number ≢ accepted → (first_that_applies rows ≡ number) ↔ SmallestRow number rows
  smallest-exact number given = (to, from)
    where
      to : first_that_applies rows ≡ number → SmallestRow number rows
      to e =
          ⊎_elim (λ first. subst (λ (n : ℕ). SmallestRow n rows) e first)
          (λ none. absurd (given (sym e ∙ none-given rows none)))
          (first-smallest bound rows rising)

      from : SmallestRow number rows → first_that_applies rows ≡ number
      from smallest =
          ⊎_elim
          (λ first.
          omega (
            arith,
            smallest.least (first_that_applies rows) first.applies,
            first.least number smallest.applies,
          ))
          (λ none. absurd (none-applies number rows none smallest.applies))
          (first-smallest bound rows rising)

-- ---- a row among the others

-- the test of the first row with a number; there is none but it in rows that rise
abbrev pub test_of : ℕ → List Refusal → Bool
test_of number [] = false
test_of number (row ∷ rows) = cond (eqb row.number number) row.applies (test_of number rows)

-- the row with a number applies exactly where its test says
pub row-exact : (bound number : ℕ) (rows : List Refusal) → is_rising bound rows ≡ true
    → RowApplies number rows ↔ (test_of number rows ≡ true)
row-exact bound number [] rising = (λ applies. absurd applies, λ e. absurd (false≢true e))
row-exact bound number (row ∷ rows) rising =
    let exact = row-exact (suc row.number) number rows (rising-rest bound row rows rising) in
    by_bool (eqb row.number number)
    (λ e. let same : row.number ≡ number = eqb-true _ _ e in rw e (here same, λ a. inl (a, same)))
    (λ e. rw e (later (eqb-false _ _ e) exact.0, λ a. inr (exact.1 a)))
  where
    here : row.number ≡ number → RowApplies number (row ∷ rows) → row.applies ≡ true
    here same (inl a) = a.0
    here same (inr a) =
        absurd (omega (
          arith,
          same,
          rising-least (suc row.number) number rows (rising-rest bound row rows rising) a,
        ))

    later : (row.number ≡ number → ⊥) → (RowApplies number rows → test_of number rows ≡ true)
        → RowApplies number (row ∷ rows) → test_of number rows ≡ true
    later other rest (inl a) = absurd (other a.1)
    later other rest (inr a) = rest a

-- ---- rows with numbers in a range

-- a number is given from the range, or none
abbrev pub NoneOrWithin : ℕ → ℕ → ℕ → Type 0
NoneOrWithin least most number = (number ≡ accepted) ⊎ ((least ≤ number) × (number ≤ most))

-- each row's number is of the range
abbrev pub all_within : ℕ → ℕ → List Refusal → Bool
all_within least most [] = true
all_within least most (row ∷ rows) =
    leb least row.number && (leb row.number most && all_within least most rows)

pub first-within : (least most : ℕ) (rows : List Refusal) → all_within least most rows ≡ true
    → NoneOrWithin least most (first_that_applies rows)
unfolding first_that_applies
first-within least most [] within = inl refl
first-within least most (row ∷ rows) within =
    by_bool (leb least row.number)
    (λ a. by_bool (leb row.number most)
    (λ b. by_bool row.applies
    (λ e. rw e (inr (leb-true _ _ a, leb-true _ _ b)))
    (λ e. rw e (first-within least most rows (rw (a, b) at within))))
    (λ b. absurd (false≢true (rw (a, b) at within))))
    (λ a. absurd (false≢true (rw a at within)))
