-- What is selected after any sequence of choices is what document 01 asks for, "Choosing": the switch's own input, or,
-- with no switch, the right choice; and a manual switch overrides priority only.
-- Assumes nothing.
use Prim.Native.Nat.{ℕ, zero, suc, ◌≤◌, ◌<◌}
use mathlib.Core.Bool.{Bool, true, false, not, cond, false≢true}
use mathlib.Core.List.{List, [], ◌∷◌}
use mathlib.Core.Path.{◌≡◌, refl, sym, ◌∙◌, subst}
use native.Mathlib.Omega.{arith}
use lib.ListN.{get_or}
use borrow.Author.Tests.{not-true}
use Rattle.std.specs.Prelude.{Option, Some, None}
use Rattle.numbers.specs.declared.InputNumber.{InputNumber}
use Rattle.numbers.specs.Inputs.{input_count}
use Rattle.numbers.proofs.Truth.{both_first, both-second}
use Rattle.choice.specs.declared.Candidate.{Candidate}
use Rattle.choice.specs.Candidate.{nobody, is_eligible, eligible_among, better_among, any_lower}
use Rattle.choice.specs.Choice.{Chosen, selected}
use Rattle.choice.proofs.Choosing.{choose-chosen, selected-injective, nothing-selected}
use Rattle.choice.proofs.Ranks.{is_better_ranking, lower-none}
use Rattle.switch.specs.declared.Switch.{Switch}
use Rattle.switch.specs.declared.Switch.TheVariants as W
use Rattle.switch.specs.OneChoice.{forced_may_stand, manual_may_stand, judged, selected_by, is_clock_locked, was_locked, decide}
use Rattle.switch.specs.Choices.{ChoiceMoment, Choices, forced_on, manual_on, commanded, decided_over, choices_ago, Locked, WasLockedRight}
use Rattle.switch.proofs.OneChoiceLaws.{selected_by-forced, selected_by-manual}
use Rattle.switch.proofs.Standing.{Passes, manual-passes, switch-right}

-- ---- what has to hold, over candidates

-- the selection after the latest choice: the switch's own input, or, with no switch, the right choice
pub record SelectionRight (choice : ChoiceMoment) (earlier : Choices) : Type 0 where
  pub free : (decided_over (choice ∷ earlier)).switch ≡ W.Nothing
      → Chosen (eligible_among choice.candidates) (better_among choice.candidates) (decided_over earlier).selection
      (decided_over (choice ∷ earlier)).selection
  pub forced : (on : ℕ) → (decided_over (choice ∷ earlier)).switch ≡ forced_on on
      → (decided_over (choice ∷ earlier)).selection ≡ selected on
  pub manual : (on : ℕ) → (decided_over (choice ∷ earlier)).switch ≡ manual_on on
      → ((decided_over (choice ∷ earlier)).selection ≡ selected on) × (eligible_among choice.candidates on ≡ true)

-- the latest choice is right; before any choice nothing is selected
abbrev pub LatestRight : Choices → Type 0
LatestRight [] = (decided_over []).selection ≡ None
LatestRight (choice ∷ earlier) = SelectionRight choice earlier

-- ---- manual_may_stand

module _ (candidates : List Candidate) (on : ℕ) where
  -- "its input is eligible"
  pub manual_may_stand-eligible : manual_may_stand candidates on ≡ true → eligible_among candidates on ≡ true
  unfolding manual_may_stand
  manual_may_stand-eligible x =
      both_first (eligible_among candidates on) (not (any_lower candidates (get_or candidates on nobody).rank)) x

  -- "and, mode on, no eligible input has lower passed quality"
  pub manual_may_stand-lower : manual_may_stand candidates on ≡ true
      → (number : ℕ) → number < input_count → eligible_among candidates number ≡ true
      → (get_or candidates on nobody).rank.0 ≤ (get_or candidates number nobody).rank.0
  unfolding manual_may_stand
  manual_may_stand-lower x =
      let lower : Bool = any_lower candidates (get_or candidates on nobody).rank in
      lower-none candidates (get_or candidates on nobody).rank
      (not-true lower (both-second (eligible_among candidates on) (not lower) x))

-- an eligible input is neither off nor locked
pub eligible-admitted : (candidates : List Candidate) (on : ℕ) → eligible_among candidates on ≡ true
    → forced_may_stand candidates on ≡ true
unfolding is_eligible
eligible-admitted candidates on x =
    both_first (get_or candidates on nobody).admitted (get_or candidates on nobody).usable x

-- ---- selected_by

selected_by-free : (candidates : List Candidate) (switch : Switch) (before : Option InputNumber) → switch ≡ W.Nothing
    → Chosen (eligible_among candidates) (better_among candidates) before (selected_by candidates switch before)
unfolding selected_by
selected_by-free candidates switch before x =
    rw x (choose-chosen (eligible_among candidates) (better_among candidates) before (is_better_ranking candidates))

-- ---- the theorems

module _ (choice : ChoiceMoment) (earlier : Choices) where
  -- the selection after any choices is right
  pub selection-right : SelectionRight choice earlier
  unfolding decided_over decide
  selection-right =
      record {
        free = selected_by-free choice.candidates standing before;
        forced = λ on x. sym (selected_by-forced choice.candidates standing before (record { 0 = on }) x);
        manual = λ on x. (
          sym (selected_by-manual choice.candidates standing before (record { 0 = on }) x),
          manual_may_stand-eligible choice.candidates on (manual-passes choice.candidates switch on x),
        );
      }
    where
      before : Option InputNumber
      before = (decided_over earlier).selection

      switch : Switch
      switch = commanded choice.kind choice.on (decided_over earlier).switch

      standing : Switch
      standing = judged choice.candidates switch

  -- "it may override priority only": no eligible input has lower quality than that of a standing manual switch
  pub selection-lower : (on : ℕ) → (decided_over (choice ∷ earlier)).switch ≡ W.Manual (record { 0 = on })
      → (number : ℕ) → number < input_count → eligible_among choice.candidates number ≡ true
      → (get_or choice.candidates on nobody).rank.0 ≤ (get_or choice.candidates number nobody).rank.0
  unfolding decided_over decide
  selection-lower on x =
      manual_may_stand-lower choice.candidates on
      (manual-passes choice.candidates (commanded choice.kind choice.on (decided_over earlier).switch) on x)

-- every choice is right
pub latest_right : (choices : Choices) → LatestRight choices
unfolding decided_over
latest_right [] = refl
latest_right (choice ∷ earlier) = selection-right choice earlier

-- what is selected is neither off nor locked
pub selected-admitted : (choices : Choices) (number : ℕ) → (decided_over choices).selection ≡ selected number
    → Passes forced_may_stand number choices
unfolding decided_over choices_ago
selected-admitted [] number x = absurd (nothing-selected number x)
selected-admitted (choice ∷ earlier) number x = go (decided_over (choice ∷ earlier)).switch refl
  where
    chosen : (selection : Option InputNumber) → selection ≡ selected number
        → Chosen (eligible_among choice.candidates) (better_among choice.candidates)
        (decided_over earlier).selection selection
        → forced_may_stand choice.candidates number ≡ true
    chosen None y best = absurd (nothing-selected number y)
    chosen (Some other) y best =
        subst (λ (on : ℕ). forced_may_stand choice.candidates on ≡ true) (selected-injective other.0 number y)
        (eligible-admitted choice.candidates other.0 best.is_eligible)

    go : (switch : Switch) → (decided_over (choice ∷ earlier)).switch ≡ switch
        → forced_may_stand choice.candidates number ≡ true
    go W.Nothing y =
        chosen (decided_over (choice ∷ earlier)).selection x ((selection-right choice earlier).free y)
    go (W.Forced on) y =
        subst (λ (other : ℕ). forced_may_stand choice.candidates other ≡ true)
        (selected-injective on.0 number (sym ((selection-right choice earlier).forced on.0 y) ∙ x))
        (((switch-right (choice ∷ earlier)).forced on.0 y).unbroken 0 (omega arith))
    go (W.Manual on) y =
        subst (λ (other : ℕ). forced_may_stand choice.candidates other ≡ true)
        (selected-injective on.0 number (sym ((selection-right choice earlier).manual on.0 y).0 ∙ x))
        (eligible-admitted choice.candidates on.0 ((selection-right choice earlier).manual on.0 y).1)

-- ---- waslocked

waslocked-some : (choices : Choices) → (decided_over choices).waslocked ≡ true → (back : ℕ) × Locked (choices_ago back choices)
unfolding decided_over choices_ago decide was_locked
waslocked-some [] x = absurd (false≢true x)
waslocked-some (choice ∷ earlier) x =
    go (is_clock_locked choice.candidates (decided_over (choice ∷ earlier)).selection) refl x
    (λ z. waslocked-some earlier z)
  where
    go : (locked : Bool) → is_clock_locked choice.candidates (decided_over (choice ∷ earlier)).selection ≡ locked
        → cond locked true (decided_over earlier).waslocked ≡ true
        → ((decided_over earlier).waslocked ≡ true → (back : ℕ) × Locked (choices_ago back earlier))
        → (back : ℕ) × Locked (choices_ago back (choice ∷ earlier))
    go true y z before = (0, y)
    go false y z before = (suc (before z).0, (before z).1)

either_true : (locked : Bool) → cond locked true true ≡ true
either_true true = refl
either_true false = refl

waslocked-any : (choices : Choices) (back : ℕ) → Locked (choices_ago back choices) → (decided_over choices).waslocked ≡ true
unfolding decided_over choices_ago decide was_locked
waslocked-any [] zero x = absurd x
waslocked-any [] (suc back) x = absurd x
waslocked-any (choice ∷ earlier) zero x = rw x
waslocked-any (choice ∷ earlier) (suc back) x =
    rw (waslocked-any earlier back x)
    (either_true (is_clock_locked choice.candidates (decided_over (choice ∷ earlier)).selection))

-- the clock has been locked exactly if it was locked after some choice
pub waslocked-right : (choices : Choices) → WasLockedRight choices
waslocked-right choices = record { some = waslocked-some choices; any = waslocked-any choices }
