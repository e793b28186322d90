-- Document 01, "Choosing", and demand 3: what a choice has to be, over any eligibility and any ranking; and the choice
-- computed. Assumes nothing.
use Rattle.std.specs.Prelude.{ℕ, zero, suc, ◌≤◌, ◌<◌, Bool, true, false, ◌&&◌, cond, ◌≡◌, ltb, Option, Some, None}
use Rattle.numbers.specs.declared.InputNumber.{InputNumber}
use Rattle.numbers.specs.Inputs.{input_count}

-- the input with this number is selected
abbrev pub selected : ℕ → Option InputNumber
selected number = Some (record { 0 = number })

-- an order in which some may rank alike
pub record Ranking (better : ℕ → ℕ → Bool) : Type 0 where
  pub irreflexive : (a : ℕ) → better a a ≡ false
  pub transitive : (a b c : ℕ) → better a b ≡ true → better b c ≡ true → better a c ≡ true
  pub negatively_transitive : (a b c : ℕ) → better a b ≡ false → better b c ≡ false → better a c ≡ false

-- the input that is chosen: eligible, none eligible is better; "Full equals: keep the one selected at the choice just
-- before, otherwise lowest input number"
pub record Best (eligible : ℕ → Bool) (better : ℕ → ℕ → Bool) (before : Option InputNumber) (chosen : ℕ) : Type 0 where
  pub inside : chosen < input_count
  pub is_eligible : eligible chosen ≡ true
  pub best : (other : ℕ) → other < input_count → eligible other ≡ true → better other chosen ≡ false
  pub kept : (earlier : ℕ) → before ≡ selected earlier → earlier < input_count → eligible earlier ≡ true
      → better chosen earlier ≡ false → chosen ≡ earlier
  pub lowest : (before ≡ selected chosen → ⊥) → (other : ℕ) → other < input_count → eligible other ≡ true
      → better chosen other ≡ false → chosen ≤ other

-- a choice is right: nothing where no input is eligible, otherwise the best
abbrev pub Chosen : (ℕ → Bool) → (ℕ → ℕ → Bool) → Option InputNumber → Option InputNumber → Type 0
Chosen eligible better before None = (number : ℕ) → number < input_count → eligible number ≡ false
Chosen eligible better before (Some chosen) = Best eligible better before chosen.0

-- the one selected just before leads at first, if it is eligible
unfoldable pub seeded : (ℕ → Bool) → Option InputNumber → Option InputNumber
seeded eligible None = None
seeded eligible (Some earlier) = cond (ltb earlier.0 input_count && eligible earlier.0) (Some earlier) None

-- an input is offered: a strictly better one takes over
unfoldable pub offered : (ℕ → Bool) → (ℕ → ℕ → Bool) → ℕ → Option InputNumber → Option InputNumber
offered eligible better number None = cond (eligible number) (selected number) None
offered eligible better number (Some leading) =
    cond (eligible number && better number leading.0) (selected number) (Some leading)

-- the first `count` inputs are offered, one by one
unfoldable pub scanned : (ℕ → Bool) → (ℕ → ℕ → Bool) → ℕ → Option InputNumber → Option InputNumber
scanned eligible better zero leader = leader
scanned eligible better (suc count) leader = offered eligible better count (scanned eligible better count leader)

-- the choice
unfoldable pub choose : (ℕ → Bool) → (ℕ → ℕ → Bool) → Option InputNumber → Option InputNumber
choose eligible better before = scanned eligible better input_count (seeded eligible before)
