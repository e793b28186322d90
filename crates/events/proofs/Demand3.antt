-- DEMAND 3, after every event of any sequence from a fresh start, and at every choice made on the way; and L7.
-- Assumes nothing.
use Prim.Native.Nat.{ℕ, zero, suc, ◌≤◌, ◌<◌}
use mathlib.Core.Bool.{Bool, true, false}
use mathlib.Core.List.{List, [], ◌∷◌, map}
use mathlib.Core.Logic.Iff
use mathlib.Core.Logic.{◌↔◌}
use mathlib.Core.Path.{◌≡◌, refl, sym, ◌∙◌, ap, subst}
use native.Mathlib.Omega.{arith}
use Rattle.std.specs.Prelude.{Option, Some, None}
use Rattle.numbers.specs.declared.InputNumber.{InputNumber}
use Rattle.numbers.proofs.Truth.{by_bool, contra}
use Rattle.numbers.specs.declared.profile.Profile.{Profile}
use Rattle.numbers.specs.From.{started, profile_of}
use Rattle.numbers.specs.Inputs.{input_count}
use Rattle.numbers.specs.Kind.{kind_forced, kind_manual}
use Rattle.input.specs.Recorded.{History, last_argument}
use Rattle.choice.specs.declared.Candidate.{Candidate}
use Rattle.choice.specs.Candidate.{eligible_among, better_among}
use Rattle.choice.specs.Choice.{selected, Best, Chosen}
use Rattle.choice.proofs.Choosing.{selected-injective, nothing-selected}
use Rattle.switch.specs.declared.Switch.{Switch}
use Rattle.switch.specs.declared.Switch.TheVariants as W
use Rattle.switch.specs.OneChoice.{forced_may_stand, manual_may_stand}
use Rattle.switch.specs.Choices.{forced_on, manual_on, Command, decided_over, choices_ago}
use Rattle.switch.proofs.Standing.{FollowsOn, Commands, Passes, StandsAmong, nothing-forced, nothing-manual, switch-right}
use Rattle.switch.proofs.Selecting.{latest_right, manual_may_stand-eligible}
use Rattle.events.specs.Sequence.{Sequence, state_after}
use Rattle.events.specs.Past.{Made, candidates_by, seen, decided_by, recorded, made_in}
use Rattle.events.specs.Happened.{MadeAt}
use Rattle.events.specs.Demand3.{Eligible, Better, RightlyChosen, Latest, Stands, StandsForced, Unsurpassed, StandsManual, RightlyDecided, selected_before, RightAt, Demand3}
use Rattle.events.specs.Manual.{ManualEligible}
use Rattle.events.proofs.Stated.{admitted-exact, eligible-stated, better-stated, unsurpassed_exact, passes-made}
use Rattle.events.proofs.Happened.{happened}

-- ---- the choice

module _ (history : History) (time : ℕ) where
  abbrev eligible : ℕ → Bool
  eligible = eligible_among (candidates_by history time)

  abbrev better : ℕ → ℕ → Bool
  better = better_among (candidates_by history time)

  not_better : (number other : ℕ) → number < input_count → other < input_count → (Better history time number other → ⊥)
      → better number other ≡ false
  not_better number other inside inside' none =
      by_bool (better number other)
      (λ x. absurd (none ((better-stated history time number other inside inside').0 x)))
      (λ x. x)

  -- the best is rightly chosen
  best-right : (before : Option InputNumber) (chosen : ℕ) → Best eligible better before chosen
      → RightlyChosen history time before (selected chosen)
  best-right before chosen best =
      record {
        nothing = (
          λ x. absurd (nothing-selected chosen (sym x)),
          λ none. absurd (none chosen ((eligible-stated history time chosen).0 best.is_eligible)),
        );
        eligible = λ number x.
            subst (Eligible history time) (is number x) ((eligible-stated history time chosen).0 best.is_eligible);
        best = λ number other x e b.
            contra
            ((better-stated history time other chosen e.admitted.is_input best.inside).1
            (subst (Better history time other) (sym (is number x)) b))
            (best.best other e.admitted.is_input ((eligible-stated history time other).1 e));
        kept = λ number earlier x y e none.
            sym (is number x) ∙
            best.kept earlier y e.admitted.is_input ((eligible-stated history time earlier).1 e)
            (not_better chosen earlier best.inside e.admitted.is_input
            (λ b. none (subst (λ (n : ℕ). Better history time n earlier) (is number x) b)));
        lowest = λ number other x y e none.
            subst (λ (n : ℕ). n ≤ other) (is number x)
            (best.lowest (λ z. y (z ∙ ap selected (is number x))) other e.admitted.is_input
            ((eligible-stated history time other).1 e)
            (not_better chosen other best.inside e.admitted.is_input
            (λ b. none (subst (λ (n : ℕ). Better history time n other) (is number x) b))));
      }
    where
      is : (number : ℕ) → selected chosen ≡ selected number → chosen ≡ number
      is number x = selected-injective chosen number x

  -- nothing is rightly chosen where no input is eligible
  nothing_right : (before : Option InputNumber) → ((number : ℕ) → Eligible history time number → ⊥)
      → RightlyChosen history time before None
  nothing_right before none =
      record {
        nothing = (λ x. none, λ x. refl);
        eligible = λ number x. absurd (nothing-selected number x);
        best = λ number other x. absurd (nothing-selected number x);
        kept = λ number earlier x. absurd (nothing-selected number x);
        lowest = λ number other x. absurd (nothing-selected number x);
      }

  pub chosen-right : (before selection : Option InputNumber) → Chosen eligible better before selection
      → RightlyChosen history time before selection
  chosen-right before None none =
      nothing_right before
      (λ number e. contra ((eligible-stated history time number).1 e) (none number e.admitted.is_input))
  chosen-right before (Some chosen) best = best-right before chosen.0 best

-- a fresh selector has no eligible input
fresh-right : (profile : Profile) (time : ℕ) (before : Option InputNumber)
    → RightlyChosen (started profile) time before None
unfolding last_argument
fresh-right profile time before = nothing_right (started profile) time before (λ number e. e.admitted.not_off refl)

-- ---- the switch

ago-seen : (back : ℕ) (made : List Made) → choices_ago back (map seen made) ≡ map seen (choices_ago back made)
unfolding choices_ago
ago-seen zero made = refl
ago-seen (suc back) [] = refl
ago-seen (suc back) (choice ∷ earlier) = ago-seen back earlier

-- what is said of the latest choice as it is decided, and as it was made
follows_seen : (kind on : ℕ) (made : List Made)
    → FollowsOn kind on (map seen made) ↔ Latest (λ (choice : Made). (choice.kind ≡ kind) × (choice.on ≡ on)) made
follows_seen kind on [] = (λ x. x, λ x. x)
follows_seen kind on (choice ∷ earlier) = (λ x. x, λ x. x)

commands-seen : (made : List Made) → Commands (map seen made) ↔ Latest (λ (choice : Made). Command choice.kind) made
commands-seen [] = (λ x. x, λ x. x)
commands-seen (choice ∷ earlier) = (λ x. x, λ x. x)

module _ (test : List Candidate → ℕ → Bool) (Test : History → ℕ → ℕ → Type 0)
    (exact : (history : History) (time number : ℕ)
    → (test (candidates_by history time) number ≡ true) ↔ Test history time number) where
  passes-seen : (on : ℕ) (made : List Made)
      → Passes test on (map seen made) ↔ Latest (λ (choice : Made). Test choice.history choice.time on) made
  passes-seen on [] = (λ x. x, λ x. x)
  passes-seen on (choice ∷ earlier) = exact choice.history choice.time on

  -- a switch stands over candidates where it stands by the recorded events
  stands-seen : (kind on : ℕ) (made : List Made) → StandsAmong kind test on (map seen made) ↔ Stands kind Test on made
  stands-seen kind on made = (to, from)
    where
      to : StandsAmong kind test on (map seen made) → Stands kind Test on made
      to s =
          record {
            count = s.count;
            given = (follows_seen kind on (choices_ago s.count made)).0 (rw (ago-seen s.count made) at s.given);
            unreplaced = λ back h x.
                s.unreplaced back h (rw (ago-seen back made) ((commands-seen (choices_ago back made)).1 x));
            unbroken = λ back h.
                (passes-seen on (choices_ago back made)).0 (rw (ago-seen back made) at (s.unbroken back h));
          }

      from : Stands kind Test on made → StandsAmong kind test on (map seen made)
      from s =
          record {
            count = s.count;
            given = rw (ago-seen s.count made) ((follows_seen kind on (choices_ago s.count made)).1 s.given);
            unreplaced = λ back h x.
                s.unreplaced back h ((commands-seen (choices_ago back made)).0 (rw (ago-seen back made) at x));
            unbroken = λ back h.
                rw (ago-seen back made) ((passes-seen on (choices_ago back made)).1 (s.unbroken back h));
          }

-- ---- after any choices made

-- the choice was made at a time by the recorded events
decided-chosen : (history : History) (time : ℕ) (made : List Made) → MadeAt history time made
    → (decided_by made).switch ≡ W.Nothing
    → RightlyChosen history time (selected_before made) (decided_by made).selection
unfolding decided_over choices_ago
decided-chosen history time [] here free =
    subst (λ (past : History). RightlyChosen past time None None) (sym here)
    (fresh-right (profile_of history) time None)
decided-chosen history time (choice ∷ earlier) here free =
    chosen-right history time (decided_by earlier).selection (decided_by (choice ∷ earlier)).selection
    (subst
    (λ (candidates : List Candidate). Chosen (eligible_among candidates) (better_among candidates)
    (decided_by earlier).selection (decided_by (choice ∷ earlier)).selection)
    here
    ((latest_right (map seen (choice ∷ earlier))).free free))

decided-forced : (made : List Made) (on : ℕ) → (decided_by made).switch ≡ forced_on on
    → (decided_by made).selection ≡ selected on
unfolding decided_over
decided-forced [] on x = absurd (nothing-forced on x)
decided-forced (choice ∷ earlier) on x = (latest_right (map seen (choice ∷ earlier))).forced on x

decided-manual : (made : List Made) (on : ℕ) → (decided_by made).switch ≡ manual_on on
    → (decided_by made).selection ≡ selected on
unfolding decided_over
decided-manual [] on x = absurd (nothing-manual on x)
decided-manual (choice ∷ earlier) on x = ((latest_right (map seen (choice ∷ earlier))).manual on x).0

forced-stands : (made : List Made) (on : ℕ) → ((decided_by made).switch ≡ forced_on on) ↔ StandsForced on made
forced-stands made on =
    Iff.trans ((switch-right (map seen made)).forced on, (switch-right (map seen made)).forced_only on)
    (stands-seen forced_may_stand _ admitted-exact kind_forced on made)

manual-stands : (made : List Made) (on : ℕ) → ((decided_by made).switch ≡ manual_on on) ↔ StandsManual on made
manual-stands made on =
    Iff.trans ((switch-right (map seen made)).manual on, (switch-right (map seen made)).manual_only on)
    (stands-seen manual_may_stand Unsurpassed unsurpassed_exact kind_manual on made)

pub decided-right : (history : History) (time : ℕ) (made : List Made) → MadeAt history time made
    → RightlyDecided history time made (decided_by made).switch (selected_before made) (decided_by made).selection
decided-right history time made here =
    record {
      forced = forced-stands made;
      manual = manual-stands made;
      by_forced = decided-forced made;
      by_manual = decided-manual made;
      chosen = decided-chosen history time made here;
    }

right-at : (made : List Made) → RightAt made
unfolding decided_over
right-at [] = (refl, refl)
right-at (choice ∷ earlier) = decided-right choice.history choice.time (choice ∷ earlier) refl

-- DEMAND 3, for every sequence of events.
pub demand_3 : (sequence : Sequence) → Demand3 sequence
demand_3 sequence =
    let is = happened sequence in
    record {
      state =
          subst
          (λ (switch : Switch). RightlyDecided (recorded sequence) (state_after sequence).time (made_in sequence) switch
          (selected_before (made_in sequence)) (state_after sequence).selection)
          (sym is.switch)
          (subst
          (λ (selection : Option InputNumber). RightlyDecided (recorded sequence) (state_after sequence).time (made_in sequence)
          (decided_by (made_in sequence)).switch (selected_before (made_in sequence)) selection)
          (sym is.selection)
          (decided-right (recorded sequence) (state_after sequence).time (made_in sequence) is.made_at));
      each = λ back. right-at (choices_ago back (made_in sequence));
    }

-- ---- L7

latest_eligible : (on : ℕ) (made : List Made)
    → Latest (λ (choice : Made). Unsurpassed choice.history choice.time on) made
    → Latest (λ (choice : Made). Eligible choice.history choice.time on) made
latest_eligible on [] x = x
latest_eligible on (choice ∷ earlier) x = x.eligible

-- L7, for every sequence of events.
pub manual-eligible : (sequence : Sequence) → ManualEligible sequence
unfolding choices_ago
manual-eligible sequence =
    let is = happened sequence in
    record {
      state = λ on x.
          (eligible-stated (recorded sequence) (state_after sequence).time on).0
          (manual_may_stand-eligible (candidates_by (recorded sequence) (state_after sequence).time) on
          (passes-made manual_may_stand on (state_after sequence).time (recorded sequence) (made_in sequence) is.made_at
          (((switch-right (map seen (made_in sequence))).manual on (sym is.switch ∙ x)).unbroken 0 (omega arith))));
      each = λ back on x.
          latest_eligible on (choices_ago back (made_in sequence))
          (((manual-stands (choices_ago back (made_in sequence)) on).0 x).unbroken 0 (omega arith));
    }
