-- Document 01, "Numbers of refusal": rows of the table, and "The smallest number that applies". Assumes nothing.
use Rattle.std.specs.Prelude.{ℕ, ◌≤◌, Bool, true, false, cond, List, [], ◌∷◌, ◌⊎◌, ◌≡◌}
use Rattle.numbers.specs.Refusal.{accepted}

-- a row of the table: its number, and whether it applies
pub record Refusal : Type 0 where
  pub number : ℕ
  pub applies : Bool

-- a row
abbrev pub refusal : ℕ → Bool → Refusal
refusal number applies = record { number = number; applies = applies }

-- "The smallest number that applies is given": the first row that applies, of rows in rising order; 0 where none does
unfoldable pub first_that_applies : List Refusal → ℕ
first_that_applies [] = accepted
first_that_applies (row ∷ rows) = cond row.applies row.number (first_that_applies rows)

-- no row of the table applies
abbrev pub NoneApplies : List Refusal → Type 0
NoneApplies [] = Unit {0}
NoneApplies (row ∷ rows) = (row.applies ≡ false) × NoneApplies rows

-- a row with this number applies
abbrev pub RowApplies : ℕ → List Refusal → Type 0
RowApplies number [] = ⊥
RowApplies number (row ∷ rows) = ((row.applies ≡ true) × (row.number ≡ number)) ⊎ RowApplies number rows

-- "The smallest number that applies"
pub record SmallestRow (number : ℕ) (rows : List Refusal) : Type 0 where
  pub applies : RowApplies number rows
  pub least : (other : ℕ) → RowApplies other rows → number ≤ other
