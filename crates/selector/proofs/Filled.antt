-- A list whose first elements have been replaced by f of another's: what a loop that fills an array holds after some
-- turns, for any lists and any f. Assumes nothing.
use Prim.Native.Nat.{ℕ, zero, suc, ◌<◌, ◌≤◌, ◌+◌}
use mathlib.Core.Path.{◌≡◌, refl, ap, ◌∙◌}
use mathlib.Core.List.{List, [], ◌∷◌, map}
use native.Mathlib.Omega.{arith}
use native.Mathlib.Numerals.{add-one}
use lib.ListN.{length, get_or, set}

module _ {A B : Type 0} (f : A → B) where
  abbrev pub filled : ℕ → List A → List B → List B
  filled zero from into = into
  filled (suc count) [] into = into
  filled (suc count) (x ∷ from) [] = []
  filled (suc count) (x ∷ from) (y ∷ into) = f x ∷ filled count from into

  filled-set : (count : ℕ) (from : List A) (into : List B) (d : A) → count < length from → count < length into
      → set (filled count from into) count (f (get_or from count d)) ≡ filled (suc count) from into
  filled-set zero [] into d h k = absurd (omega arith)
  filled-set zero (x ∷ from) [] d h k = absurd (omega arith)
  filled-set zero (x ∷ from) (y ∷ into) d h k = refl
  filled-set (suc count) [] into d h k = absurd (omega arith)
  filled-set (suc count) (x ∷ from) [] d h k = absurd (omega arith)
  filled-set (suc count) (x ∷ from) (y ∷ into) d h k =
      ap (λ (rest : List B). f x ∷ rest) (filled-set count from into d (omega arith) (omega arith))

  filled-all : (count : ℕ) (from : List A) (into : List B) → length from ≡ count → length into ≡ count
      → filled count from into ≡ map f from
  filled-all zero [] [] h k = refl
  filled-all zero [] (y ∷ into) h k = absurd (omega arith)
  filled-all zero (x ∷ from) into h k = absurd (omega arith)
  filled-all (suc count) [] into h k = absurd (omega arith)
  filled-all (suc count) (x ∷ from) [] h k = absurd (omega arith)
  filled-all (suc count) (x ∷ from) (y ∷ into) h k =
      ap (λ (rest : List B). f x ∷ rest) (filled-all count from into (omega arith) (omega arith))

  -- a turn of the loop, and its end, in the form in which they are asked
  pub filled-turn : (size count : ℕ) (from : List A) (into now : List B) (d : A) (result : B)
      → now ≡ filled count from into
      → result ≡ f (get_or from count d) → length from ≡ size → length into ≡ size → count < size
      → set now count result ≡ filled (count + 1) from into
  filled-turn size count from into now d result e q h k lt =
      let a : count < length from = omega arith in
      let b : count < length into = omega arith in
      rw (q, e, add-one) (filled-set count from into d a b)

  pub filled-done : (size count : ℕ) (from : List A) (into now : List B) → now ≡ filled count from into
      → length from ≡ size
      → length into ≡ size → count ≤ size → size ≤ count → now ≡ map f from
  filled-done size count from into now e h k p q = e ∙ filled-all count from into (omega arith) (omega arith)

-- in place: what a turn reads has not been replaced yet
module _ {A : Type 0} (f : A → A) where
  pub filled_at : (count : ℕ) (from : List A) (d : A) → get_or (filled f count from from) count d ≡ get_or from count d
  filled_at zero from d = refl
  filled_at (suc count) [] d = refl
  filled_at (suc count) (x ∷ from) d = filled_at count from d

  pub filled-turn_in_place : (size count : ℕ) (from now : List A) (d result : A) → now ≡ filled f count from from
      → result ≡ f (get_or now count d) → length from ≡ size → count < size
      → set now count result ≡ filled f (count + 1) from from
  filled-turn_in_place size count from now d result e q h lt =
      filled-turn f size count from from now d result e
      (q ∙ ap f (ap (λ (list : List A). get_or list count d) e ∙ filled_at count from d))
      h
      h
      lt
