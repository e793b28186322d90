-- What the parts of the code promise one another. Cited by `src/lib.rt`. Assumes nothing.
use Rattle.std.specs.Prelude.{ℕ, ◌+◌, Bool, cond, List, ◌∷◌, ◌≡◌, length}
use Rattle.digits.specs.Digits.{space}
use Rattle.digits.specs.Decimal.{decimal_of}
use Rattle.text.specs.Text.{with_text}

-- a number in decimal, behind a space where another stands before it
unfoldable pub next_text : Bool → ℕ → List ℕ
next_text behind number = cond behind (space ∷ decimal_of number) (decimal_of number)

-- a text written from a place
pub record Put (text : List ℕ) (place : ℕ) (before : List ℕ) (end : ℕ) (after : List ℕ) : Type 0 where
  pub past : end ≡ place + length text
  pub content : after ≡ with_text place text before
