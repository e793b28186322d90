-- A candidate that is not admitted, off or locked, does not matter: whatever else it is, the same switch stands and the
-- same is selected. Assumes nothing.
use Prim.Native.Nat.{ℕ, zero, suc}
use mathlib.Core.Bool.{Bool, true, false, not, ◌&&◌, cond}
use mathlib.Core.List.{List}
use mathlib.Core.Path.{◌≡◌, refl, sym, ◌∙◌, ap}
use mathlib.Core.Logic.{◌⊎◌, ⊎_elim}
use lib.Dec.{eqb}
use lib.ListN.{get_or}
use Rattle.std.specs.Prelude.{Option, Some, None}
use Rattle.numbers.specs.declared.InputNumber.{InputNumber}
use Rattle.numbers.proofs.Truth.{by_bool, contra}
use Rattle.numbers.specs.Inputs.{input_count}
use Rattle.numbers.specs.Kind.{kind_forced, kind_manual}
use Rattle.numbers.specs.Refusal.{accepted, forced_barred, manual_forced_stands, manual_not_eligible, manual_lower_quality}
use Rattle.choice.specs.declared.Candidate.{Candidate}
use Rattle.choice.specs.declared.Rank.{Rank}
use Rattle.choice.specs.Candidate.{nobody, is_eligible, is_better, eligible_among, better_among, is_lower, lower_among, any_lower}
use Rattle.choice.specs.Choice.{Best, Chosen, choose}
use Rattle.choice.proofs.Choosing.{choose-chosen, chosen_unique}
use Rattle.choice.proofs.Ranks.{is_better_ranking}
use Rattle.switch.specs.declared.Switch.{Switch}
use Rattle.switch.specs.declared.Switch.TheVariants as W
use Rattle.switch.specs.OneChoice.{forced_may_stand, manual_may_stand, judged, selected_by, is_clock_locked, decide}
use Rattle.switch.proofs.Selecting.{manual_may_stand-eligible, eligible-admitted}
use Rattle.numbers.specs.Rows.{first_that_applies}
use Rattle.events.specs.Refusals.{is_forced_switch, late_refusal}

-- neither candidate is admitted
pub record Barred (one other : Candidate) : Type 0 where
  pub first : one.admitted ≡ false
  pub second : other.admitted ≡ false

-- the candidates are the same, but for some that are not admitted
abbrev pub SameAdmitted : List Candidate → List Candidate → Type 0
SameAdmitted one other =
    (number : ℕ) → (get_or one number nobody ≡ get_or other number nobody) ⊎
    Barred (get_or one number nobody) (get_or other number nobody)

-- ---- what is selected is admitted

-- nothing, or an input that is admitted
abbrev pub SelectionAdmitted : List Candidate → Option InputNumber → Type 0
SelectionAdmitted candidates None = Unit {0}
SelectionAdmitted candidates (Some number) = forced_may_stand candidates number.0 ≡ true

module _ (candidates : List Candidate) where
  chosen-admitted : (before selection : Option InputNumber)
      → Chosen (eligible_among candidates) (better_among candidates) before selection
      → SelectionAdmitted candidates selection
  chosen-admitted before None chosen = tt
  chosen-admitted before (Some number) best = eligible-admitted candidates number.0 best.is_eligible

  choose-admitted : (before : Option InputNumber) → SelectionAdmitted candidates (selected_by candidates W.Nothing before)
  unfolding selected_by
  choose-admitted before =
      chosen-admitted before (choose (eligible_among candidates) (better_among candidates) before)
      (choose-chosen (eligible_among candidates) (better_among candidates) before (is_better_ranking candidates))

  -- what a standing switch or the choice selects
  pub selected_by-admitted : (switch : Switch) (before : Option InputNumber)
      → SelectionAdmitted candidates (selected_by candidates (judged candidates switch) before)
  unfolding judged selected_by
  selected_by-admitted W.Nothing before = choose-admitted before
  selected_by-admitted (W.Forced on) before =
      by_bool (forced_may_stand candidates on.0) (λ e. rw e e) (λ e. rw e (choose-admitted before))
  selected_by-admitted (W.Manual on) before =
      by_bool (manual_may_stand candidates on.0)
      (λ e. rw e (eligible-admitted candidates on.0 (manual_may_stand-eligible candidates on.0 e)))
      (λ e. rw e (choose-admitted before))

-- ---- two lists of candidates

module _ (one other : List Candidate) (same : SameAdmitted one other) where
  -- ---- one of them

  same-admitted : (number : ℕ) → forced_may_stand one number ≡ forced_may_stand other number
  same-admitted number =
      ⊎_elim (ap (λ (candidate : Candidate). candidate.admitted)) (λ barred. barred.first ∙ sym barred.second)
      (same number)

  same-eligible : (number : ℕ) → eligible_among one number ≡ eligible_among other number
  unfolding is_eligible
  same-eligible number =
      ⊎_elim (ap is_eligible) (λ barred. rw (barred.first, barred.second)) (same number)

  -- one that is admitted is the same
  pub admitted-same : (number : ℕ) → forced_may_stand one number ≡ true
      → get_or one number nobody ≡ get_or other number nobody
  admitted-same number admitted =
      ⊎_elim (λ e. e) (λ barred. contra admitted barred.first) (same number)

  eligible-same : (number : ℕ) → eligible_among one number ≡ true → get_or one number nobody ≡ get_or other number nobody
  eligible-same number eligible = admitted-same number (eligible-admitted one number eligible)

  -- ---- the switch judged

  is_lower-same : (found : Bool) (number : ℕ) (rank : Rank)
      → is_lower found (get_or one number nobody) rank ≡ is_lower found (get_or other number nobody) rank
  unfolding is_lower is_eligible
  is_lower-same found number rank =
      ⊎_elim (ap (λ (candidate : Candidate). is_lower found candidate rank))
      (λ barred. rw (barred.first, barred.second))
      (same number)

  lower_among-same : (rank : Rank) (count : ℕ) → lower_among one rank count ≡ lower_among other rank count
  unfolding lower_among
  lower_among-same rank zero = refl
  lower_among-same rank (suc count) =
      is_lower-same (lower_among one rank count) count rank ∙
      ap (λ (found : Bool). is_lower found (get_or other count nobody) rank) (lower_among-same rank count)

  -- of an eligible input
  beaten_same : (number : ℕ) → eligible_among one number ≡ true
      → any_lower one (get_or one number nobody).rank ≡ any_lower other (get_or other number nobody).rank
  beaten_same number eligible =
      lower_among-same (get_or one number nobody).rank input_count ∙
      ap (λ (candidate : Candidate). any_lower other candidate.rank) (eligible-same number eligible)

  manual_may_stand-same : (number : ℕ) → manual_may_stand one number ≡ manual_may_stand other number
  unfolding manual_may_stand
  manual_may_stand-same number =
      by_bool (eligible_among one number)
      (λ e. rw (e, sym (same-eligible number) ∙ e, beaten_same number e))
      (λ e. rw (e, sym (same-eligible number) ∙ e))

  judged-same : (switch : Switch) → judged one switch ≡ judged other switch
  unfolding judged
  judged-same W.Nothing = refl
  judged-same (W.Forced on) = ap (λ (able : Bool). cond able (W.Forced on) W.Nothing) (same-admitted on.0)
  judged-same (W.Manual on) = ap (λ (able : Bool). cond able (W.Manual on) W.Nothing) (manual_may_stand-same on.0)

  -- ---- the choice made

  better-same : (number chosen : ℕ) → eligible_among one number ≡ true → eligible_among one chosen ≡ true
      → better_among one number chosen ≡ better_among other number chosen
  better-same number chosen e k = λ j. is_better (eligible-same number e j) (eligible-same chosen k j)

  here : (number : ℕ) → eligible_among other number ≡ true → eligible_among one number ≡ true
  here number e = same-eligible number ∙ e

  best-same : (before : Option InputNumber) (chosen : ℕ) → Best (eligible_among one) (better_among one) before chosen
      → Best (eligible_among other) (better_among other) before chosen
  best-same before chosen best =
      let k : eligible_among one chosen ≡ true = best.is_eligible in
      record {
        inside = best.inside;
        is_eligible = sym (same-eligible chosen) ∙ k;
        best = λ number h e. sym (better-same number chosen (here number e) k) ∙ best.best number h (here number e);
        kept = λ number is h e worse.
            best.kept number is h (here number e) (better-same chosen number k (here number e) ∙ worse);
        lowest = λ new number h e worse.
            best.lowest new number h (here number e) (better-same chosen number k (here number e) ∙ worse);
      }

  chosen-same : (before selection : Option InputNumber) → Chosen (eligible_among one) (better_among one) before selection
      → Chosen (eligible_among other) (better_among other) before selection
  chosen-same before None none = λ number h. sym (same-eligible number) ∙ none number h
  chosen-same before (Some chosen) best = best-same before chosen.0 best

  choose-same : (before : Option InputNumber)
      → choose (eligible_among one) (better_among one) before ≡ choose (eligible_among other) (better_among other) before
  choose-same before =
      chosen_unique (eligible_among other) (better_among other) before
      (choose (eligible_among one) (better_among one) before)
      (choose (eligible_among other) (better_among other) before)
      (chosen-same before (choose (eligible_among one) (better_among one) before)
      (choose-chosen (eligible_among one) (better_among one) before (is_better_ranking one)))
      (choose-chosen (eligible_among other) (better_among other) before (is_better_ranking other))

  selected_by-same : (switch : Switch) (before : Option InputNumber)
      → selected_by one switch before ≡ selected_by other switch before
  unfolding selected_by
  selected_by-same W.Nothing before = choose-same before
  selected_by-same (W.Forced on) before = refl
  selected_by-same (W.Manual on) before = refl

  locked-same : (selection : Option InputNumber) → SelectionAdmitted one selection
      → is_clock_locked one selection ≡ is_clock_locked other selection
  unfolding is_clock_locked
  locked-same None admitted = refl
  locked-same (Some number) admitted =
      ap (λ (candidate : Candidate). candidate.usable) (admitted-same number.0 admitted)

  -- ---- the theorems

  -- the switch judged and the choice made come to the same
  pub decide-same : (switch : Switch) (before : Option InputNumber) (waslocked : Bool)
      → decide one switch before waslocked ≡ decide other switch before waslocked
  unfolding decide
  decide-same switch before waslocked =
      rw (
        locked-same (selected_by one (judged one switch) before) (selected_by-admitted one switch before),
        judged-same switch,
        selected_by-same (judged other switch) before,
      )

  -- rows 14 to 17 give the same
  pub late_refusal-same : (switch : Switch) (kind on : ℕ)
      → late_refusal one switch kind on ≡ late_refusal other switch kind on
  unfolding late_refusal first_that_applies
  late_refusal-same switch kind on =
      by_bool (eligible_among one on)
      (λ e. rw (same-admitted on, e, sym (same-eligible on) ∙ e, beaten_same on e))
      (λ e. rw (same-admitted on, e, sym (same-eligible on) ∙ e)
      (ineligible (eqb kind kind_forced && not (forced_may_stand other on)) (is_forced_switch switch)
      (any_lower one (get_or one on nobody).rank) (any_lower other (get_or other on nobody).rank) (eqb kind kind_manual)))
    where
      rows : Bool → Bool → Bool → Bool → ℕ
      rows barred stands lower manual =
          cond barred forced_barred
          (cond (manual && stands) manual_forced_stands
          (cond (manual && true) manual_not_eligible
          (cond (manual && lower) manual_lower_quality
          accepted)))

      -- an input that is not eligible is refused with 16 before 17 is asked
      ineligible : (barred stands lower otherLower manual : Bool)
          → rows barred stands lower manual ≡ rows barred stands otherLower manual
      ineligible barred stands lower otherLower true = refl
      ineligible barred stands lower otherLower false = refl
