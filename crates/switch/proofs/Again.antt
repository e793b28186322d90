-- Deciding again, by the same candidates and with no command, changes nothing.
-- Assumes nothing.
use mathlib.Core.Bool.{Bool, true, false, cond}
use mathlib.Core.List.{List, ◌∷◌}
use mathlib.Core.Path.{◌≡◌, refl, ◌∙◌}
use mathlib.Core.Logic.{⊎_elim}
use native.Mathlib.Omega.{arith}
use Rattle.std.specs.Prelude.{Option}
use Rattle.numbers.specs.declared.InputNumber.{InputNumber}
use Rattle.numbers.specs.Kind.{kind_tick}
use Rattle.choice.specs.declared.Candidate.{Candidate}
use Rattle.choice.specs.Candidate.{eligible_among, better_among}
use Rattle.choice.proofs.Choosing.{choose-again}
use Rattle.choice.proofs.Ranks.{is_better_ranking}
use Rattle.switch.specs.declared.Switch.{Switch}
use Rattle.switch.specs.declared.Switch.TheVariants as W
use Rattle.switch.specs.OneChoice.{judged, selected_by, is_clock_locked, was_locked, decide}
use Rattle.switch.specs.Choices.{ChoiceMoment, Choices, commanded, decided_over}
use Rattle.switch.proofs.Standing.{Commands, stands, judged-stands, commanded-other}

-- a switch that stands by these candidates stands by them again
pub judged-again : (candidates : List Candidate) (switch : Switch)
    → judged candidates (judged candidates switch) ≡ judged candidates switch
judged-again candidates switch =
    rw (judged-stands candidates switch) (go (stands candidates switch) refl)
  where
    go : (able : Bool) → stands candidates switch ≡ able
        → judged candidates (cond able switch W.Nothing) ≡ cond able switch W.Nothing
    go true x = judged-stands candidates switch ∙ rw x
    go false x = judged-stands candidates W.Nothing

-- what is selected is selected again
pub selected_by-again : (candidates : List Candidate) (switch : Switch) (before : Option InputNumber)
    → selected_by candidates switch (selected_by candidates switch before) ≡ selected_by candidates switch before
unfolding selected_by
selected_by-again candidates W.Nothing before =
    choose-again (eligible_among candidates) (better_among candidates) before (is_better_ranking candidates)
selected_by-again candidates (W.Forced on) before = refl
selected_by-again candidates (W.Manual on) before = refl

pub was_locked-again : (waslocked locked : Bool) → was_locked (was_locked waslocked locked) locked ≡ was_locked waslocked locked
unfolding was_locked
was_locked-again waslocked true = refl
was_locked-again waslocked false = refl

-- ---- the theorems

module _ (candidates : List Candidate) (switch : Switch) (before : Option InputNumber) (waslocked : Bool) where
  -- deciding again changes nothing
  pub decided-again :
      decide candidates (decide candidates switch before waslocked).switch (decide candidates switch before waslocked).selection
      (decide candidates switch before waslocked).waslocked
      ≡ decide candidates switch before waslocked
  unfolding decide
  decided-again =
      rw (
        judged-again candidates switch,
        selected_by-again candidates (judged candidates switch) before,
        was_locked-again waslocked (is_clock_locked candidates (selected_by candidates (judged candidates switch) before)),
      )

module _ (again choice : ChoiceMoment) (earlier : Choices) where
  -- nor does a choice that follows no command, where every input is as it was at the choice before
  pub decided_over-again : again.candidates ≡ choice.candidates → (Commands (again ∷ (choice ∷ earlier)) → ⊥)
      → decided_over (again ∷ (choice ∷ earlier)) ≡ decided_over (choice ∷ earlier)
  unfolding decided_over
  decided_over-again same none =
      rw (same, commanded-other again.kind again.on (decided_over (choice ∷ earlier)).switch none)
      (decided-again choice.candidates (commanded choice.kind choice.on (decided_over earlier).switch)
      (decided_over earlier).selection (decided_over earlier).waslocked)

  -- such as a tick's
  pub decided_over_tick : again.candidates ≡ choice.candidates → again.kind ≡ kind_tick
      → decided_over (again ∷ (choice ∷ earlier)) ≡ decided_over (choice ∷ earlier)
  decided_over_tick same tick =
      decided_over-again same (⊎_elim (λ x. omega arith) (⊎_elim (λ x. omega arith) (λ x. omega arith)))
