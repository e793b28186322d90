-- Tests of two parts, and both cases of any. Assumes nothing.
use Prim.Native.Nat.{◌≤◌}
use mathlib.Core.Bool.{Bool, true, false, ◌&&◌, ◌||◌, true≢false}
use mathlib.Core.Path.{◌≡◌, refl, sym, ◌∙◌}
use native.Mathlib.Omega.{arith}
use Rattle.std.proofs.lemmas.Bool.{or_parts, and_parts}
pub use Rattle.std.proofs.lemmas.Bool.{or_cases, or_left, or_right, and_from as and_both, or_from as neither, false_from_ne_true as is_false}
use Rattle.numbers.specs.Kind.{flag}

-- both cases of a test, with the equation
pub by_bool : {C : Type 0} (test : Bool) → (test ≡ true → C) → (test ≡ false → C) → C
by_bool true f g = f refl
by_bool false f g = g refl

pub or_first : (a b : Bool) → (a || b) ≡ false → a ≡ false
or_first a b e = (or_parts a b e).0

pub or_second : (a b : Bool) → (a || b) ≡ false → b ≡ false
or_second a b e = (or_parts a b e).1

pub both_first : (a b : Bool) → (a && b) ≡ true → a ≡ true
both_first a b e = (and_parts a b e).0

pub both-second : (a b : Bool) → (a && b) ≡ true → b ≡ true
both-second a b e = (and_parts a b e).1

-- a test is not both
pub contra : {A : Type 0} {test : Bool} → test ≡ true → test ≡ false → A
contra x y = absurd (true≢false (sym x ∙ y))

-- a test as a number
pub flag-most : (test : Bool) → flag test ≤ 1
flag-most true = omega arith
flag-most false = omega arith
