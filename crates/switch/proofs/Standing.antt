-- The switch stands exactly as document 01 says, "Choosing", after any sequence of choices, over candidates.
-- A forced and a manual switch are argued alike: what is used of each is a `Setting`.
-- Assumes nothing.
use Prim.Native.Nat.{ℕ, zero, suc, ◌≤◌, ◌<◌}
use mathlib.Core.Bool.{Bool, true, false, cond}
use mathlib.Core.List.{List, [], ◌∷◌}
use mathlib.Core.Path.{◌≡◌, refl, sym, ◌∙◌, ap}
use mathlib.Core.Logic.{◌⊎◌, inl, inr, ⊎_elim}
use native.Mathlib.Omega.{arith}
use lib.Dec.{eqb}
use borrow.Author.Tests.{eqb-true, eqb-false, ne_eqb}
use Rattle.numbers.specs.declared.InputNumber.{InputNumber}
use Rattle.numbers.specs.Kind.{kind_forced, kind_manual, kind_clear_switch}
use Rattle.choice.specs.declared.Candidate.{Candidate}
use Rattle.switch.specs.declared.Switch.{Switch}
use Rattle.switch.specs.declared.Switch.TheVariants as W
use Rattle.switch.specs.OneChoice.{forced_may_stand, manual_may_stand, judged, decide}
use Rattle.switch.specs.Choices.{Choices, forced_on, manual_on, Command, commanded, decided_over, choices_ago}

-- ---- what has to hold, over candidates

-- the latest choice follows an event of a kind on an input
abbrev pub FollowsOn : ℕ → ℕ → Choices → Type 0
FollowsOn kind on [] = ⊥
FollowsOn kind on (choice ∷ earlier) = (choice.kind ≡ kind) × (choice.on ≡ on)

-- the latest choice follows a command to the switch
abbrev pub Commands : Choices → Type 0
Commands [] = ⊥
Commands (choice ∷ earlier) = Command choice.kind

-- at the latest choice an input passes a test
abbrev pub Passes : (List Candidate → ℕ → Bool) → ℕ → Choices → Type 0
Passes test on [] = ⊥
Passes test on (choice ∷ earlier) = test choice.candidates on ≡ true

-- `Stands` of `events/specs/Demand3` over candidates: some choice follows the switch's command; no later one follows a
-- command to the switch; and its input has passed the switch's test at that choice and at every later one
pub record StandsAmong (kind : ℕ) (test : List Candidate → ℕ → Bool) (on : ℕ) (choices : Choices) : Type 0 where
  pub count : ℕ
  pub given : FollowsOn kind on (choices_ago count choices)
  pub unreplaced : (back : ℕ) → back < count → Commands (choices_ago back choices) → ⊥
  pub unbroken : (back : ℕ) → back ≤ count → Passes test on (choices_ago back choices)

-- a forced switch stands, over candidates
abbrev pub ForcedAmong : ℕ → Choices → Type 0
ForcedAmong on choices = StandsAmong kind_forced forced_may_stand on choices

-- a manual switch stands, over candidates
abbrev pub ManualAmong : ℕ → Choices → Type 0
ManualAmong on choices = StandsAmong kind_manual manual_may_stand on choices

-- the switch after the choices stands exactly as the sentences say
pub record SwitchRight (choices : Choices) : Type 0 where
  pub forced : (on : ℕ) → (decided_over choices).switch ≡ forced_on on → ForcedAmong on choices
  pub forced_only : (on : ℕ) → ForcedAmong on choices → (decided_over choices).switch ≡ forced_on on
  pub manual : (on : ℕ) → (decided_over choices).switch ≡ manual_on on → ManualAmong on choices
  pub manual_only : (on : ℕ) → ManualAmong on choices → (decided_over choices).switch ≡ manual_on on

-- ---- switches are told apart

pub nothing-forced : (on : ℕ) → W.Nothing ≡ forced_on on → ⊥
nothing-forced on x = let z : ◌≡◌ {A = ℕ} 0 1 = cc in omega arith

pub nothing-manual : (on : ℕ) → W.Nothing ≡ manual_on on → ⊥
nothing-manual on x = let z : ◌≡◌ {A = ℕ} 0 1 = cc in omega arith

pub forced-manual : (on other : ℕ) → forced_on on ≡ manual_on other → ⊥
forced-manual on other x = let z : ◌≡◌ {A = ℕ} 0 1 = cc in omega arith

pub forced-injective : (on other : ℕ) → forced_on on ≡ forced_on other → on ≡ other
forced-injective on other x =
    let z : ◌≡◌ {A = InputNumber} (record { 0 = on }) (record { 0 = other }) = cc in
    ap (λ (number : InputNumber). number.0) z

pub manual-injective : (on other : ℕ) → manual_on on ≡ manual_on other → on ≡ other
manual-injective on other x =
    let z : ◌≡◌ {A = InputNumber} (record { 0 = on }) (record { 0 = other }) = cc in
    ap (λ (number : InputNumber). number.0) z

-- ---- judged

-- a switch may stand
abbrev pub stands : List Candidate → Switch → Bool
stands candidates W.Nothing = false
stands candidates (W.Forced on) = forced_may_stand candidates on.0
stands candidates (W.Manual on) = manual_may_stand candidates on.0

-- judging keeps a switch that may stand, and otherwise leaves none
pub judged-stands : (candidates : List Candidate) (switch : Switch)
    → judged candidates switch ≡ cond (stands candidates switch) switch W.Nothing
unfolding judged
judged-stands candidates W.Nothing = refl
judged-stands candidates (W.Forced on) = refl
judged-stands candidates (W.Manual on) = refl

-- ---- commanded

-- any other event leaves the switch
pub commanded-other : (kind on : ℕ) (switch : Switch) → (Command kind → ⊥) → commanded kind on switch ≡ switch
unfolding commanded
commanded-other kind on switch n =
    rw (
      ne_eqb kind kind_forced (λ x. n (inl x)),
      ne_eqb kind kind_manual (λ x. n (inr (inl x))),
      ne_eqb kind kind_clear_switch (λ x. n (inr (inr x))),
    )

-- ---- one argument for both switches

-- what is used of a switch: its command sets it, it is judged by its test, and nothing else sets it
record Setting (kind : ℕ) (test : List Candidate → ℕ → Bool) (switchOn : ℕ → Switch) : Type 0 where
  sets : (on : ℕ) (before : Switch) → commanded kind on before ≡ switchOn on
  tested : (candidates : List Candidate) (on : ℕ) → stands candidates (switchOn on) ≡ test candidates on
  not_nothing : (on : ℕ) → W.Nothing ≡ switchOn on → ⊥
  by_forced : (set on : ℕ) → forced_on set ≡ switchOn on → (kind_forced ≡ kind) × (set ≡ on)
  by_manual : (set on : ℕ) → manual_on set ≡ switchOn on → (kind_manual ≡ kind) × (set ≡ on)

module _ (kind : ℕ) (test : List Candidate → ℕ → Bool) (switchOn : ℕ → Switch)
    (setting : Setting kind test switchOn) where
  judged-passes : (candidates : List Candidate) (on : ℕ) → test candidates on ≡ true
      → judged candidates (switchOn on) ≡ switchOn on
  judged-passes candidates on x = rw (judged-stands candidates (switchOn on), setting.tested candidates on, x)

  -- a switch that stands once judged stood before and passes its test
  judged-only : (candidates : List Candidate) (switch : Switch) (on : ℕ) → judged candidates switch ≡ switchOn on
      → (switch ≡ switchOn on) × (test candidates on ≡ true)
  judged-only candidates switch on x =
      go (stands candidates switch) refl (sym (judged-stands candidates switch) ∙ x)
    where
      go : (able : Bool) → stands candidates switch ≡ able → cond able switch W.Nothing ≡ switchOn on
          → (switch ≡ switchOn on) × (test candidates on ≡ true)
      go true y z = (z, sym (setting.tested candidates on) ∙ ap (stands candidates) (sym z) ∙ y)
      go false y z = absurd (setting.not_nothing on z)

  -- a switch that is there after an event: the event is its command, or no command and it was there before
  commanded-only : (given set on : ℕ) (before : Switch) → commanded given set before ≡ switchOn on
      → ((given ≡ kind) × (set ≡ on)) ⊎ ((Command given → ⊥) × (before ≡ switchOn on))
  unfolding commanded
  commanded-only given set on before =
      go (eqb given kind_forced) refl (eqb given kind_manual) refl (eqb given kind_clear_switch) refl
    where
      go : (forced : Bool) → eqb given kind_forced ≡ forced
          → (manual : Bool) → eqb given kind_manual ≡ manual
          → (clear : Bool) → eqb given kind_clear_switch ≡ clear
          → cond forced (forced_on set) (cond manual (manual_on set) (cond clear W.Nothing before)) ≡ switchOn on
          → ((given ≡ kind) × (set ≡ on)) ⊎ ((Command given → ⊥) × (before ≡ switchOn on))
      go true f manual m clear c x =
          inl (eqb-true given kind_forced f ∙ (setting.by_forced set on x).0, (setting.by_forced set on x).1)
      go false f true m clear c x =
          inl (eqb-true given kind_manual m ∙ (setting.by_manual set on x).0, (setting.by_manual set on x).1)
      go false f false m true c x = absurd (setting.not_nothing on x)
      go false f false m false c x =
          inr (
            ⊎_elim (eqb-false given kind_forced f)
                (⊎_elim (eqb-false given kind_manual m) (eqb-false given kind_clear_switch c)),
            x,
          )

  -- the switch that is there stands
  switch-stands : (choices : Choices) (on : ℕ) → (decided_over choices).switch ≡ switchOn on
      → StandsAmong kind test on choices
  unfolding decided_over decide choices_ago
  switch-stands [] on x = absurd (setting.not_nothing on x)
  switch-stands (choice ∷ earlier) on x =
      ⊎_elim now (λ y. later y.0 (switch-stands earlier on y.1))
      (commanded-only choice.kind choice.on on (decided_over earlier).switch judged_here.0)
    where
      judged_here : (commanded choice.kind choice.on (decided_over earlier).switch ≡ switchOn on)
          × (test choice.candidates on ≡ true)
      judged_here =
          judged-only choice.candidates (commanded choice.kind choice.on (decided_over earlier).switch) on x

      now : (choice.kind ≡ kind) × (choice.on ≡ on) → StandsAmong kind test on (choice ∷ earlier)
      now y =
          record {
            count = 0;
            given = y;
            unreplaced = λ back h. absurd (omega arith);
            unbroken = elim [ zero ↦ λ h. judged_here.1 | suc back ↦ λ h. absurd (omega arith) ];
          }

      later : (Command choice.kind → ⊥) → StandsAmong kind test on earlier
          → StandsAmong kind test on (choice ∷ earlier)
      later n s =
          record {
            count = suc s.count;
            given = s.given;
            unreplaced = elim [ zero ↦ λ h. n | suc back ↦ λ h. s.unreplaced back (omega arith) ];
            unbroken = elim [ zero ↦ λ h. judged_here.1 | suc back ↦ λ h. s.unbroken back (omega arith) ];
          }

  -- the switch that stands is there
  stands-switch : (choices : Choices) (on count : ℕ) → FollowsOn kind on (choices_ago count choices)
      → ((back : ℕ) → back < count → Commands (choices_ago back choices) → ⊥)
      → ((back : ℕ) → back ≤ count → Passes test on (choices_ago back choices))
      → (decided_over choices).switch ≡ switchOn on
  unfolding decided_over decide choices_ago
  stands-switch [] on zero given unreplaced unbroken = absurd given
  stands-switch [] on (suc count) given unreplaced unbroken = absurd given
  stands-switch (choice ∷ earlier) on zero given unreplaced unbroken =
      rw (given.0, given.1, setting.sets on (decided_over earlier).switch)
      (judged-passes choice.candidates on (unbroken 0 (omega arith)))
  stands-switch (choice ∷ earlier) on (suc count) given unreplaced unbroken =
      rw (
        commanded-other choice.kind choice.on (decided_over earlier).switch (unreplaced 0 (omega arith)),
        stands-switch earlier on count given
            (λ back h. unreplaced (suc back) (omega arith)) (λ back h. unbroken (suc back) (omega arith)),
      )
      (judged-passes choice.candidates on (unbroken 0 (omega arith)))

forced_setting : Setting kind_forced forced_may_stand forced_on
unfolding commanded
forced_setting =
    record {
      sets = λ on before. refl;
      tested = λ candidates on. refl;
      not_nothing = nothing-forced;
      by_forced = λ set on x. (refl, forced-injective set on x);
      by_manual = λ set on x. absurd (forced-manual on set (sym x));
    }

manual_setting : Setting kind_manual manual_may_stand manual_on
unfolding commanded
manual_setting =
    record {
      sets = λ on before. refl;
      tested = λ candidates on. refl;
      not_nothing = nothing-manual;
      by_forced = λ set on x. absurd (forced-manual set on x);
      by_manual = λ set on x. (refl, manual-injective set on x);
    }

-- a manual switch that stands passes its test at the latest choice
pub manual-passes : (candidates : List Candidate) (switch : Switch) (on : ℕ) → judged candidates switch ≡ manual_on on
    → manual_may_stand candidates on ≡ true
manual-passes candidates switch on x =
    (judged-only kind_manual manual_may_stand manual_on manual_setting candidates switch on x).1

-- ---- the theorems

-- the switch after any choices stands exactly as document 01 says
pub switch-right : (choices : Choices) → SwitchRight choices
switch-right choices =
    record {
      forced = switch-stands kind_forced forced_may_stand forced_on forced_setting choices;
      forced_only = λ on s.
          stands-switch kind_forced forced_may_stand forced_on forced_setting choices on
          s.count s.given s.unreplaced s.unbroken;
      manual = switch-stands kind_manual manual_may_stand manual_on manual_setting choices;
      manual_only = λ on s.
          stands-switch kind_manual manual_may_stand manual_on manual_setting choices on
          s.count s.given s.unreplaced s.unbroken;
    }

module _ (choices : Choices) (on other : ℕ) where
  -- a forced switch stands on one input only
  pub forced_among_unique : ForcedAmong on choices → ForcedAmong other choices → on ≡ other
  forced_among_unique s t =
      forced-injective on other (sym ((switch-right choices).forced_only on s) ∙ (switch-right choices).forced_only other t)

  -- a manual switch too
  pub manual_among_unique : ManualAmong on choices → ManualAmong other choices → on ≡ other
  manual_among_unique s t =
      manual-injective on other (sym ((switch-right choices).manual_only on s) ∙ (switch-right choices).manual_only other t)

  -- and never both stand
  pub forced_among_alone : ForcedAmong on choices → ManualAmong other choices → ⊥
  forced_among_alone s t =
      forced-manual on other (sym ((switch-right choices).forced_only on s) ∙ (switch-right choices).manual_only other t)
