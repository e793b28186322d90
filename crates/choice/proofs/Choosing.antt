-- The choice is the one that document 01 asks for, "Choosing", over any eligibility and any ranking; it is the only
-- one, choosing again changes nothing, and it looks only at inputs 0 to 15.
-- Assumes nothing.
use Prim.Native.Nat.{ℕ, zero, suc, ◌≤◌, ◌<◌}
use mathlib.Core.Bool.{Bool, true, false, ◌&&◌, cond}
use mathlib.Core.Path.{◌≡◌, refl, sym, ◌∙◌, ap, subst}
use mathlib.Core.Logic.{◌⊎◌, inl, inr, ⊎_elim, ◌↔◌}
use native.Mathlib.Omega.{arith}
use native.Mathlib.Decide.{ℕ_discrete}
use lib.Dec.{ltb}
use borrow.Author.Tests.{ltb-true, lt-ltb}
use Rattle.std.specs.Prelude.{Option, Some, None}
use Rattle.numbers.proofs.Truth.{by_bool, is_false, both_first, both-second, contra}
use Rattle.numbers.specs.declared.InputNumber.{InputNumber}
use Rattle.numbers.specs.Inputs.{input_count}
use Rattle.choice.specs.Choice.{selected, Ranking, Best, Chosen, seeded, offered, scanned, choose}

-- ---- selections

pub selected-injective : (number other : ℕ) → selected number ≡ selected other → number ≡ other
selected-injective a b x =
    let z : ◌≡◌ {A = InputNumber} (record { 0 = a }) (record { 0 = b }) = cc in
    ap (λ (number : InputNumber). number.0) z

pub nothing-selected : (number : ℕ) → None ≡ selected number → ⊥
nothing-selected a x = let z : ◌≡◌ {A = ℕ} 0 1 = cc in omega arith

selected-decided : (before : Option InputNumber) (number : ℕ) → Dec (before ≡ selected number)
selected-decided None number = no (nothing-selected number)
selected-decided (Some earlier) number = go (ℕ_discrete earlier.0 number)
  where
    go : Dec (earlier.0 ≡ number) → Dec (Some earlier ≡ selected number)
    go (yes x) = yes (ap selected x)
    go (no x) = no (λ y. x (selected-injective earlier.0 number y))

-- ---- the one that leads once the first `count` inputs have been offered

module _ (eligible : ℕ → Bool) (better : ℕ → ℕ → Bool) (before : Option InputNumber) where
  -- it took over: from the one selected just before, if that is eligible, and from none with a higher number
  record Arrived (count leading : ℕ) : Type 0 where
    offered_before : leading < count
    beats : (earlier : ℕ) → before ≡ selected earlier → earlier < input_count → eligible earlier ≡ true
        → better leading earlier ≡ true
    lowest : (other : ℕ) → other < count → eligible other ≡ true → better leading other ≡ false → leading ≤ other

  record Leads (count leading : ℕ) : Type 0 where
    inside : leading < input_count
    is_eligible : eligible leading ≡ true
    best : (other : ℕ) → other < count → eligible other ≡ true → better other leading ≡ false
    best_before : (earlier : ℕ) → before ≡ selected earlier → earlier < input_count → eligible earlier ≡ true
        → better earlier leading ≡ false
    keeps : (before ≡ selected leading) ⊎ Arrived count leading

  abbrev Leader : ℕ → Option InputNumber → Type 0
  Leader count None =
      ((other : ℕ) → other < count → eligible other ≡ false)
      × ((earlier : ℕ) → before ≡ selected earlier → earlier < input_count → eligible earlier ≡ false)
  Leader count (Some leading) = Leads count leading.0

-- what holds below a number and at it holds below the next
up_to : (count : ℕ) (P : ℕ → Type 0) → ((number : ℕ) → number < count → P number) → P count
    → (number : ℕ) → number < suc count → P number
up_to n P f g j i = go (ℕ_discrete j n)
  where
    go : Dec (j ≡ n) → P j
    go (yes x) = subst P (sym x) g
    go (no x) = f j (omega arith)

module _ (eligible : ℕ → Bool) (better : ℕ → ℕ → Bool) (before : Option InputNumber) (ranking : Ranking better) where
  offered-nothing : (count : ℕ) → count < input_count → Leader eligible better before count None
      → (test : Bool) → eligible count ≡ test
      → Leader eligible better before (suc count) (cond test (selected count) None)
  offered-nothing n h v true x =
      record {
        inside = h;
        is_eligible = x;
        best =
            up_to n (λ j. eligible j ≡ true → better j n ≡ false)
            (λ j i y. contra y (v.0 j i)) (λ y. ranking.irreflexive n);
        best_before = λ p y z w. contra w (v.1 p y z);
        keeps =
            inr record {
              offered_before = omega arith;
              beats = λ p y z w. contra w (v.1 p y z);
              lowest =
                  up_to n (λ j. eligible j ≡ true → better n j ≡ false → n ≤ j)
                  (λ j i y z. contra y (v.0 j i)) (λ y z. omega arith);
            };
      }
  offered-nothing n h v false x = (up_to n (λ j. eligible j ≡ false) v.0 x, v.1)

  offered-at : (count leading : ℕ) → count < input_count → Leads eligible better before count leading
      → (test : Bool) → (eligible count && better count leading) ≡ test
      → Leader eligible better before (suc count) (cond test (selected count) (selected leading))
  offered-at n s h v true x =
      let en : eligible n ≡ true = both_first (eligible n) (better n s) x in
      let bn : better n s ≡ true = both-second (eligible n) (better n s) x in
      let behind : (j : ℕ) → better j s ≡ false → better j n ≡ false =
      λ j y. is_false (better j n) (λ z. contra (ranking.transitive j n s z bn) y) in
      let ahead : (j : ℕ) → better j s ≡ false → better n j ≡ false → ⊥ =
      λ j y z. contra bn (ranking.negatively_transitive n j s z y) in
      record {
        inside = h;
        is_eligible = en;
        best =
            up_to n (λ j. eligible j ≡ true → better j n ≡ false)
            (λ j i y. behind j (v.best j i y)) (λ y. ranking.irreflexive n);
        best_before = λ p y z w. behind p (v.best_before p y z w);
        keeps =
            inr record {
              offered_before = omega arith;
              beats = λ p y z w. by_bool (better n p) (λ k. k) (λ k. absurd (ahead p (v.best_before p y z w) k));
              lowest =
                  up_to n (λ j. eligible j ≡ true → better n j ≡ false → n ≤ j)
                  (λ j i y z. absurd (ahead j (v.best j i y) z)) (λ y z. omega arith);
            };
      }
  offered-at n s h v false x =
      record {
        inside = v.inside;
        is_eligible = v.is_eligible;
        best = up_to n (λ j. eligible j ≡ true → better j s ≡ false) v.best (λ y. rw y at x);
        best_before = v.best_before;
        keeps = ⊎_elim (λ y. inl y) (λ y. inr (stays y)) v.keeps;
      }
    where
      stays : Arrived eligible better before n s → Arrived eligible better before (suc n) s
      stays y =
          record {
            offered_before = omega (arith, y.offered_before);
            beats = y.beats;
            lowest =
                up_to n (λ j. eligible j ≡ true → better s j ≡ false → s ≤ j)
                y.lowest (λ a b. omega (arith, y.offered_before));
          }

  offered_leads : (count : ℕ) (leader : Option InputNumber) → count < input_count → Leader eligible better before count leader
      → Leader eligible better before (suc count) (offered eligible better count leader)
  unfolding offered
  offered_leads n None h v = offered-nothing n h v (eligible n) refl
  offered_leads n (Some leading) h v = offered-at n leading.0 h v (eligible n && better n leading.0) refl

  scanned_leads : (count : ℕ) (leader : Option InputNumber) → count ≤ input_count → Leader eligible better before 0 leader
      → Leader eligible better before count (scanned eligible better count leader)
  unfolding scanned
  scanned_leads zero leader h v = v
  scanned_leads (suc n) leader h v =
      offered_leads n (scanned eligible better n leader) (omega arith) (scanned_leads n leader (omega arith) v)

seeded-at : (eligible : ℕ → Bool) (better : ℕ → ℕ → Bool) → Ranking better → (earlier : ℕ)
    → (test : Bool) → (ltb earlier input_count && eligible earlier) ≡ test
    → Leader eligible better (selected earlier) 0 (cond test (selected earlier) None)
seeded-at eligible better ranking p true x =
    record {
      inside = ltb-true p input_count (both_first (ltb p input_count) (eligible p) x);
      is_eligible = both-second (ltb p input_count) (eligible p) x;
      best = λ j i y. absurd (omega arith);
      best_before = λ k y z w. subst (λ (n : ℕ). better n p ≡ false) (selected-injective p k y) (ranking.irreflexive p);
      keeps = inl refl;
    }
seeded-at eligible better ranking p false x = (
  λ j i. absurd (omega arith),
  λ k y h. let z : p ≡ k = selected-injective p k y in is_false (eligible k) (λ w. contra (taken k z h w) x),
)
  where
    taken : (k : ℕ) → p ≡ k → k < input_count → eligible k ≡ true → (ltb p input_count && eligible p) ≡ true
    taken k z h w = rw (z, lt-ltb k input_count h) w

seeded_leads : (eligible : ℕ → Bool) (better : ℕ → ℕ → Bool) → Ranking better → (before : Option InputNumber)
    → Leader eligible better before 0 (seeded eligible before)
unfolding seeded
seeded_leads eligible better ranking None = (λ j i. absurd (omega arith), λ k y h. absurd (nothing-selected k y))
seeded_leads eligible better ranking (Some earlier) =
    seeded-at eligible better ranking earlier.0 (ltb earlier.0 input_count && eligible earlier.0) refl

leads_chosen : (eligible : ℕ → Bool) (better : ℕ → ℕ → Bool) (before leader : Option InputNumber)
    → Leader eligible better before input_count leader → Chosen eligible better before leader
leads_chosen eligible better before None v = v.0
leads_chosen eligible better before (Some leading) v =
    record {
      inside = v.inside;
      is_eligible = v.is_eligible;
      best = v.best;
      kept = λ p x h y z.
          ⊎_elim (λ k. selected-injective leading.0 p (sym k ∙ x)) (λ k. contra (k.beats p x h y) z) v.keeps;
      lowest = λ n j x y z. ⊎_elim (λ k. absurd (n k)) (λ k. k.lowest j x y z) v.keeps;
    }

-- ---- the theorems

module _ (eligible : ℕ → Bool) (better : ℕ → ℕ → Bool) (before : Option InputNumber) where
  -- the choice is what document 01 asks for
  pub choose-chosen : Ranking better → Chosen eligible better before (choose eligible better before)
  unfolding choose
  choose-chosen ranking =
      leads_chosen eligible better before (scanned eligible better input_count (seeded eligible before))
      (scanned_leads eligible better before ranking input_count (seeded eligible before) (omega arith)
      (seeded_leads eligible better ranking before))

  before-best : (earlier other : ℕ) → before ≡ selected earlier
      → Best eligible better before earlier → Best eligible better before other → other ≡ earlier
  before-best s t x v w = w.kept s x v.inside v.is_eligible (v.best t w.inside w.is_eligible)

  -- one input only is best
  pub best_unique : (chosen other : ℕ) → Best eligible better before chosen → Best eligible better before other
      → chosen ≡ other
  best_unique s t v w = go (selected-decided before s) (selected-decided before t)
    where
      go : Dec (before ≡ selected s) → Dec (before ≡ selected t) → s ≡ t
      go (yes x) d = sym (before-best s t x v w)
      go (no x) (yes y) = before-best t s y w v
      go (no x) (no y) =
          let a : s ≤ t = v.lowest x t w.inside w.is_eligible (w.best s v.inside v.is_eligible) in
          let b : t ≤ s = w.lowest y s v.inside v.is_eligible (v.best t w.inside w.is_eligible) in
          omega arith

  -- one answer only is right
  pub chosen_unique : (answer other : Option InputNumber)
      → Chosen eligible better before answer → Chosen eligible better before other → answer ≡ other
  chosen_unique None None v w = refl
  chosen_unique None (Some t) v w = contra w.is_eligible (v t.0 w.inside)
  chosen_unique (Some s) None v w = contra v.is_eligible (w s.0 v.inside)
  chosen_unique (Some s) (Some t) v w = ap selected (best_unique s.0 t.0 v w)

  -- nothing is selected exactly when no input is eligible
  pub chosen_none : (answer : Option InputNumber) → Chosen eligible better before answer
      → (answer ≡ None) ↔ ((number : ℕ) → number < input_count → eligible number ≡ false)
  chosen_none None v = (λ x. v, λ f. refl)
  chosen_none (Some s) v = (
    λ x. absurd (nothing-selected s.0 (sym x)),
    λ f. contra v.is_eligible (f s.0 v.inside),
  )

  -- a right answer is right again when it is the one selected just before
  pub chosen-again : (answer : Option InputNumber) → Chosen eligible better before answer → Chosen eligible better answer answer
  chosen-again None v = v
  chosen-again (Some s) v =
      record {
        inside = v.inside;
        is_eligible = v.is_eligible;
        best = v.best;
        kept = λ p x h y z. selected-injective s.0 p x;
        lowest = λ n j x y z. absurd (n refl);
      }

-- choosing again changes nothing
pub choose-again : (eligible : ℕ → Bool) (better : ℕ → ℕ → Bool) (before : Option InputNumber) → Ranking better
    → choose eligible better (choose eligible better before) ≡ choose eligible better before
choose-again eligible better before ranking =
    let answer : Option InputNumber = choose eligible better before in
    chosen_unique eligible better answer (choose eligible better answer) answer
    (choose-chosen eligible better answer ranking)
    (chosen-again eligible better before answer (choose-chosen eligible better before ranking))

-- ---- the choice looks only at inputs 0 to 15

-- one of the inputs, or nothing
abbrev pub Inside : Option InputNumber → Type 0
Inside None = Unit {0}
Inside (Some number) = number.0 < input_count

module _ (eligible : ℕ → Bool) (better : ℕ → ℕ → Bool) where
  taken-inside : (number : ℕ) (leader : Option InputNumber) (test : Bool) → number < input_count → Inside leader
      → Inside (cond test (selected number) leader)
  taken-inside n leader true h i = h
  taken-inside n leader false h i = i

  offered-inside : (number : ℕ) (leader : Option InputNumber) → number < input_count → Inside leader
      → Inside (offered eligible better number leader)
  unfolding offered
  offered-inside n None h i = taken-inside n None (eligible n) h i
  offered-inside n (Some leading) h i = taken-inside n (Some leading) (eligible n && better n leading.0) h i

  scanned-inside : (count : ℕ) (leader : Option InputNumber) → count ≤ input_count → Inside leader
      → Inside (scanned eligible better count leader)
  unfolding scanned
  scanned-inside zero leader h i = i
  scanned-inside (suc n) leader h i =
      offered-inside n (scanned eligible better n leader) (omega arith) (scanned-inside n leader (omega arith) i)

  kept-inside : (earlier : InputNumber) (test : Bool) → (ltb earlier.0 input_count && eligible earlier.0) ≡ test
      → Inside (cond test (Some earlier) None)
  kept-inside earlier true x =
      ltb-true earlier.0 input_count (both_first (ltb earlier.0 input_count) (eligible earlier.0) x)
  kept-inside earlier false x = tt

  seeded-inside : (before : Option InputNumber) → Inside (seeded eligible before)
  unfolding seeded
  seeded-inside None = tt
  seeded-inside (Some earlier) = kept-inside earlier (ltb earlier.0 input_count && eligible earlier.0) refl

  -- what is chosen is one of the inputs
  pub choose-inside : (before : Option InputNumber) → Inside (choose eligible better before)
  unfolding choose
  choose-inside before = scanned-inside input_count (seeded eligible before) (omega arith) (seeded-inside before)

module _ (eligible eligible' : ℕ → Bool) (better better' : ℕ → ℕ → Bool)
    (same_eligible : (number : ℕ) → number < input_count → eligible number ≡ eligible' number)
    (same_better : (number other : ℕ) → number < input_count → other < input_count
    → better number other ≡ better' number other) where
  offered-alike : (number : ℕ) (leader : Option InputNumber) → number < input_count → Inside leader
      → offered eligible better number leader ≡ offered eligible' better' number leader
  unfolding offered
  offered-alike n None h i = rw (same_eligible n h)
  offered-alike n (Some leading) h i = rw (same_eligible n h, same_better n leading.0 h i)

  scanned-alike : (count : ℕ) (leader : Option InputNumber) → count ≤ input_count → Inside leader
      → scanned eligible better count leader ≡ scanned eligible' better' count leader
  unfolding scanned
  scanned-alike zero leader h i = refl
  scanned-alike (suc n) leader h i =
      offered-alike n (scanned eligible better n leader) (omega arith)
      (scanned-inside eligible better n leader (omega arith) i)
      ∙ ap (offered eligible' better' n) (scanned-alike n leader (omega arith) i)

  seeded-alike : (before : Option InputNumber) → seeded eligible before ≡ seeded eligible' before
  unfolding seeded
  seeded-alike None = refl
  seeded-alike (Some earlier) =
      by_bool (ltb earlier.0 input_count)
      (λ x. rw (same_eligible earlier.0 (ltb-true earlier.0 input_count x)))
      (λ x. rw x)

  -- the choice looks only at inputs 0 to 15
  pub choose-alike : (before : Option InputNumber) → choose eligible better before ≡ choose eligible' better' before
  unfolding choose
  choose-alike before =
      scanned-alike input_count (seeded eligible before) (omega arith) (seeded-inside eligible better before)
      ∙ ap (scanned eligible' better' input_count) (seeded-alike before)
