-- Document 01, "Choosing", over any sequence of choices: which switch stands and what is selected, computed; what both
-- have to be is in `events/specs/Demand3`. Assumes nothing.
use Rattle.std.specs.Prelude.{ℕ, zero, suc, true, false, cond, List, [], ◌∷◌, ◌≡◌, ◌⊎◌, eqb, None}
use Rattle.numbers.specs.Kind.{kind_forced, kind_manual, kind_clear_switch}
use Rattle.choice.specs.declared.Candidate.{Candidate}
use Rattle.switch.specs.declared.Switch.{Switch}
use Rattle.switch.specs.declared.Switch.TheVariants as W
use Rattle.switch.specs.declared.AfterChoice.{AfterChoice}
use Rattle.switch.specs.OneChoice.{is_clock_locked, decide}

-- one choice: the sixteen inputs as they are then, and the kind and input of the event that the choice follows; a
-- tick's kind where it follows the tick
pub record ChoiceMoment : Type 0 where
  pub candidates : List Candidate
  pub kind : ℕ
  pub on : ℕ

-- the choices made, the latest first
abbrev pub Choices : Type 0
Choices = List ChoiceMoment

-- the forced switch on an input
abbrev pub forced_on : ℕ → Switch
forced_on on = W.Forced (record { 0 = on })

-- the manual switch on an input
abbrev pub manual_on : ℕ → Switch
manual_on on = W.Manual (record { 0 = on })

-- an event of this kind is a command to the switch: forced, manual or clear
abbrev pub Command : ℕ → Type 0
Command kind = (kind ≡ kind_forced) ⊎ ((kind ≡ kind_manual) ⊎ (kind ≡ kind_clear_switch))

-- the switch as an event commands it, before it is judged
unfoldable pub commanded : ℕ → ℕ → Switch → Switch
commanded kind on switch =
    cond (eqb kind kind_forced) (forced_on on)
    (cond (eqb kind kind_manual) (manual_on on)
    (cond (eqb kind kind_clear_switch) W.Nothing
    switch))

-- what the choices come to: each is made on what the one before it left
unfoldable pub decided_over : Choices → AfterChoice
decided_over [] = record { switch = W.Nothing; selection = None; waslocked = false }
decided_over (choice ∷ earlier) =
    let before = decided_over earlier in
    decide choice.candidates
    (commanded choice.kind choice.on before.switch)
    before.selection
    before.waslocked

-- of choices, the latest first: the one that was made `count` choices ago, with those before it
unfoldable pub choices_ago : {Choice : Type 0} → ℕ → List Choice → List Choice
choices_ago zero choices = choices
choices_ago (suc count) [] = []
choices_ago (suc count) (choice ∷ earlier) = choices_ago count earlier

-- the clock is locked after the latest choice
abbrev pub Locked : Choices → Type 0
Locked [] = ⊥
Locked (choice ∷ earlier) = is_clock_locked choice.candidates (decided_over (choice ∷ earlier)).selection ≡ true

-- "if it was locked after any earlier choice"
pub record WasLockedRight (choices : Choices) : Type 0 where
  pub some : (decided_over choices).waslocked ≡ true → (back : ℕ) × Locked (choices_ago back choices)
  pub any : (back : ℕ) → Locked (choices_ago back choices) → (decided_over choices).waslocked ≡ true
