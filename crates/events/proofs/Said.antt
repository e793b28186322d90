-- Rows 14 to 17 of the table, by the tests that the definitions compute and in the words of demand 3. Assumes nothing.
use Prim.Native.Nat.{ℕ, ◌<◌}
use mathlib.Core.Bool.{Bool, true, not, ◌&&◌, true≢false, false≢true}
use mathlib.Core.List.{List}
use mathlib.Core.Logic.Iff
use mathlib.Core.Logic.{◌↔◌}
use mathlib.Core.Path.{◌≡◌, refl, sym, ◌∙◌}
use lib.Dec.{eqb}
use lib.ListN.{get_or}
use borrow.Author.Tests.{eqb-true, eq-eqb, not-true}
use Rattle.numbers.proofs.Truth.{by_bool, both_first, both-second}
use Rattle.numbers.proofs.Rows.{test_of, row-exact}
use Rattle.numbers.specs.Inputs.{input_count}
use Rattle.numbers.specs.Kind.{kind_forced, kind_manual}
use Rattle.numbers.specs.Refusal.{forced_barred, manual_forced_stands, manual_not_eligible, manual_lower_quality}
use Rattle.numbers.specs.Rows.{RowApplies}
use Rattle.input.specs.Recorded.{History}
use Rattle.choice.specs.Candidate.{nobody, eligible_among, any_lower}
use Rattle.choice.proofs.Ranks.{lower-found, lower-some}
use Rattle.switch.specs.declared.Switch.{Switch}
use Rattle.switch.specs.declared.Switch.TheVariants as W
use Rattle.switch.specs.OneChoice.{forced_may_stand}
use Rattle.switch.specs.Choices.{forced_on}
use Rattle.switch.proofs.Standing.{nothing-forced, forced-manual}
use Rattle.events.specs.Refusals.{is_forced_switch}
use Rattle.events.specs.Sequence.{Given}
use Rattle.events.specs.Past.{Made, Past, candidates_by, decided_by, tick_choices, rows_after}
use Rattle.events.specs.Demand1.{RowsSaid}
use Rattle.events.specs.Demand3.{Admitted, Eligible, LowerQuality, StandsForced}
use Rattle.events.proofs.Stated.{admitted-exact, eligible-stated, lower-stated}
use Rattle.events.proofs.Demand3.{decided-right}

-- ---- tests

both-exact : {A B : Type 0} (a b : Bool) → (a ≡ true) ↔ A → (b ≡ true) ↔ B → ((a && b) ≡ true) ↔ (A × B)
both-exact a b x y =
    (λ z. (x.0 (both_first a b z), y.0 (both-second a b z)), λ z. rw (x.1 z.0, y.1 z.1))

not_exact : {A : Type 0} (a : Bool) → (a ≡ true) ↔ A → (not a ≡ true) ↔ (A → ⊥)
not_exact a x = (
  λ n p. true≢false (sym (x.1 p) ∙ not-true a n),
  λ n. by_bool a (λ e. absurd (n (x.0 e))) (λ e. rw e),
)

kind-exact : (kind other : ℕ) → (eqb kind other ≡ true) ↔ (kind ≡ other)
kind-exact kind other = (eqb-true kind other, eq-eqb kind other)

forced-exact : (switch : Switch) → (is_forced_switch switch ≡ true) ↔ ((on : ℕ) × (switch ≡ forced_on on))
unfolding is_forced_switch
forced-exact W.Nothing = (λ x. absurd (false≢true x), λ x. absurd (nothing-forced x.0 x.1))
forced-exact (W.Forced on) = (λ x. (on.0, refl), λ x. refl)
forced-exact (W.Manual on) = (λ x. absurd (false≢true x), λ x. absurd (forced-manual x.0 on.0 (sym x.1)))

-- ---- the rows in words

module _ (past : Past) (given : Given) where
  abbrev history : History
  history = past.history

  abbrev time : ℕ
  time = given.event.time

  abbrev kind : ℕ
  kind = given.event.kind

  abbrev input : ℕ
  input = given.event.input

  abbrev made : List Made
  made = tick_choices history time past.made

  -- the tests of the four rows
  said_14 : ((eqb kind kind_forced && not (forced_may_stand (candidates_by history time) input)) ≡ true) ↔
      ((kind ≡ kind_forced) × (Admitted history input → ⊥))
  said_14 = both-exact _ _ (kind-exact kind kind_forced) (not_exact _ (admitted-exact history time input))

  said_15 : ((eqb kind kind_manual && is_forced_switch (decided_by made).switch) ≡ true) ↔
      ((kind ≡ kind_manual) × ((on : ℕ) × StandsForced on made))
  said_15 =
      both-exact _ _ (kind-exact kind kind_manual) (
        λ x. let found = (forced-exact (decided_by made).switch).0 x in
            (found.0, ((decided-right history time made refl).forced found.0).0 found.1),
        λ x.
            (forced-exact (decided_by made).switch).1
            (x.0, ((decided-right history time made refl).forced x.0).1 x.1),
      )

  said_16 : ((eqb kind kind_manual && not (eligible_among (candidates_by history time) input)) ≡ true) ↔
      ((kind ≡ kind_manual) × (Eligible history time input → ⊥))
  said_16 = both-exact _ _ (kind-exact kind kind_manual) (not_exact _ (eligible-stated history time input))

  said_17 : input < input_count
      → ((eqb kind kind_manual &&
      any_lower (candidates_by history time) (get_or (candidates_by history time) input nobody).rank) ≡ true) ↔
      ((kind ≡ kind_manual) × ((other : ℕ) × (Eligible history time other × LowerQuality history time other input)))
  said_17 inside =
      both-exact _ _ (kind-exact kind kind_manual) (
        λ x. let found =
            lower-found (candidates_by history time) (get_or (candidates_by history time) input nobody).rank x
            in (
              found.0,
              (
                (eligible-stated history time found.0).0 found.2.is_eligible,
                (lower-stated history time found.0 input found.1 inside).0 found.2.is_lower,
              ),
            ),
        λ x.
            lower-some (candidates_by history time) (get_or (candidates_by history time) input nobody).rank x.0
            x.1.0.admitted.is_input
            (record {
              is_eligible = (eligible-stated history time x.0).1 x.1.0;
              is_lower = (lower-stated history time x.0 input x.1.0.admitted.is_input inside).1 x.1.1;
            }),
      )

-- rows 14 to 17 apply as said, whatever has happened
pub rows-said : (past : Past) (given : Given) → RowsSaid past given
rows-said past given =
    record {
      fourteen = Iff.trans (row forced_barred) (said_14 past given);
      fifteen = Iff.trans (row manual_forced_stands) (said_15 past given);
      sixteen = Iff.trans (row manual_not_eligible) (said_16 past given);
      seventeen = λ inside. Iff.trans (row manual_lower_quality) (said_17 past given inside);
    }
  where
    row : (number : ℕ) → RowApplies number (rows_after past given) ↔ (test_of number (rows_after past given) ≡ true)
    row number = row-exact forced_barred number (rows_after past given) refl
