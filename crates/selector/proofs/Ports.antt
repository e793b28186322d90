-- The sixteen ports as a list of their own numbers. Assumes nothing.
use Prim.Native.Nat.{ℕ, zero, suc, ◌+◌, ◌<◌}
use mathlib.Core.Bool.{true, false, cond}
use mathlib.Core.List.{List, [], ◌∷◌, map}
use mathlib.Core.Path.{◌≡◌, refl, ◌∙◌, ap}
use native.Mathlib.Omega.{arith}
use lib.Dec.{eqb}
use lib.ListN.{get_or, set}
use borrow.Author.Tests.{eq-eqb, ne_eqb}
use Rattle.selector.specs.Answer.{ports}

numbers_from : ℕ → ℕ → List ℕ
numbers_from first zero = []
numbers_from first (suc count) = first ∷ numbers_from (suc first) count

numbers_from-at : (first count number : ℕ) → number < count → get_or (numbers_from first count) number 0 ≡ first + number
unfolding numbers_from
numbers_from-at first zero number h = absurd (omega arith)
numbers_from-at first (suc count) zero h = omega arith
numbers_from-at first (suc count) (suc number) h =
    let e : suc first + number ≡ first + suc number = omega arith in
    numbers_from-at (suc first) count number (omega arith) ∙ e

-- the ports are their own numbers
pub port-number : (port : ℕ) → port < 16 → get_or ports port 0 ≡ port
unfolding numbers_from
port-number port h = let e : 0 + port ≡ port = omega arith in numbers_from-at 0 16 port h ∙ e

-- ---- one place of a list of sixteen changed

module _ {A : Type 0} (f : ℕ → A) (x : A) where
  -- f but at one place
  abbrev pub but_at : ℕ → ℕ → A
  but_at place number = cond (eqb number place) x (f number)

  map-later : (first count place : ℕ) → place < first
      → map f (numbers_from first count) ≡ map (but_at place) (numbers_from first count)
  unfolding numbers_from
  map-later first zero place h = refl
  map-later first (suc count) place h =
      let e : eqb first place ≡ false = ne_eqb first place (λ k. omega arith) in
      rw e (ap (λ (rest : List A). f first ∷ rest) (map-later (suc first) count place (omega arith)))

  set-from : (first count number : ℕ) → number < count
      → set (map f (numbers_from first count)) number x ≡ map (but_at (first + number)) (numbers_from first count)
  unfolding numbers_from
  set-from first zero number h = absurd (omega arith)
  set-from first (suc count) zero h =
      let e : eqb first (first + 0) ≡ true = eq-eqb first (first + 0) (omega arith) in
      rw e (ap (λ (rest : List A). x ∷ rest) (map-later (suc first) count (first + 0) (omega arith)))
  set-from first (suc count) (suc number) h =
      let e : eqb first (first + suc number) ≡ false = ne_eqb first (first + suc number) (λ k. omega arith) in
      let k : suc first + number ≡ first + suc number = omega arith in
      rw e
      (ap (λ (rest : List A). f first ∷ rest)
      (set-from (suc first) count number (omega arith) ∙
      ap (λ (place : ℕ). map (but_at place) (numbers_from (suc first) count)) k))

  pub set-ports : (number : ℕ) → number < 16 → set (map f ports) number x ≡ map (but_at number) ports
  unfolding numbers_from
  set-ports number h =
      let e : 0 + number ≡ number = omega arith in
      set-from 0 16 number h ∙ ap (λ (place : ℕ). map (but_at place) ports) e

-- what stands at a port
get_d_from : {A : Type 0} (f : ℕ → A) (d : A) (first count number : ℕ) → number < count
    → get_or (map f (numbers_from first count)) number d ≡ f (first + number)
unfolding numbers_from
get_d_from f d first zero number h = absurd (omega arith)
get_d_from f d first (suc count) zero h = let e : first ≡ first + 0 = omega arith in ap f e
get_d_from f d first (suc count) (suc number) h =
    let e : suc first + number ≡ first + suc number = omega arith in
    get_d_from f d (suc first) count number (omega arith) ∙ ap f e

pub get_d_ports : {A : Type 0} (f : ℕ → A) (d : A) (number : ℕ) → number < 16 → get_or (map f ports) number d ≡ f number
unfolding numbers_from
get_d_ports f d number h = let e : 0 + number ≡ number = omega arith in get_d_from f d 0 16 number h ∙ ap f e

-- two functions that agree at each port agree on the list of ports
map-from : {A : Type 0} (f g : ℕ → A) (first count : ℕ) → ((number : ℕ) → number < first + count → f number ≡ g number)
    → map f (numbers_from first count) ≡ map g (numbers_from first count)
unfolding numbers_from
map-from f g first zero same = refl
map-from f g first (suc count) same = λ j.
    same first (omega arith) j ∷ map-from f g (suc first) count (λ number h. same number (omega arith)) j

pub ports-same : {A : Type 0} (f g : ℕ → A) → ((port : ℕ) → port < 16 → f port ≡ g port) → map f ports ≡ map g ports
unfolding numbers_from
ports-same f g same = map-from f g 0 16 same
