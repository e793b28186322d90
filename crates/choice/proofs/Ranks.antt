-- What eligible, better and lower say of candidates: document 01, "Choosing".
-- Assumes nothing.
use Prim.Native.Nat.{ℕ, zero, suc, ◌≤◌, ◌<◌}
use mathlib.Core.Bool.{Bool, true, false, not, ◌&&◌, cond, false≢true}
use mathlib.Core.List.{List}
use mathlib.Core.Path.{◌≡◌, refl, sym, ◌∙◌}
use mathlib.Core.Logic.{◌⊎◌, inl, inr, ⊎_elim, ◌↔◌}
use native.Mathlib.Omega.{arith}
use native.Mathlib.Decide.{ℕ_discrete}
use lib.Dec.{leb, ltb, eqb}
use lib.ListN.{get_or}
use borrow.Author.Tests.{eqb-true, ltb-true, ltb-false, leb-true, eqb-false, lt-ltb, le-ltb, le-leb, ne_eqb, not-true}
use Rattle.numbers.proofs.Truth.{by_bool, both_first, both-second, contra}
use Rattle.numbers.specs.declared.Priority.{Priority}
use Rattle.numbers.specs.declared.quality.Quality.{Quality}
use Rattle.numbers.specs.Inputs.{input_count}
use Rattle.numbers.specs.Quality.{failed}
use Rattle.numbers.specs.Truth.{alike}
use Rattle.choice.specs.declared.Candidate.{Candidate}
use Rattle.choice.specs.declared.Seen.{Seen}
use Rattle.choice.specs.declared.Rank.{Rank}
use Rattle.choice.specs.Rank.{rank_of, floor_rank, Within}
use Rattle.choice.specs.Candidate.{nobody, is_usable, is_admitted, ranked_quality, candidate_of, is_eligible, EligibleCandidate, is_better, is_like, eligible_among, better_among, is_lower, lower_among, any_lower}
use Rattle.choice.specs.Choice.{Ranking}
use Rattle.choice.proofs.Places.{within-exact}
use Rattle.choice.proofs.ChoiceLaws.{is_better_rank, is_better-priority, is_better_not}

-- ---- is_eligible

module _ (provplace floor : ℕ) (passed : Quality) (priority : Priority) (locked : Bool) where
  abbrev usable_in : Bool → Bool
  usable_in mode = is_usable mode floor (rank_of provplace (ranked_quality mode passed)) passed

  usable-parts : (mode : Bool) → usable_in mode ≡ true
      → (passed.0 ≡ failed.0 → ⊥) × (mode ≡ true → Within provplace floor passed)
  unfolding is_usable ranked_quality
  usable-parts true x =
      let good = not (eqb passed.0 failed.0) in
      let rank = (rank_of provplace passed).0 in
      let within = leb 1 rank && leb rank (floor_rank floor) in
      let ranks : within ≡ true = both-second good within x in (
        eqb-false passed.0 failed.0 (not-true (eqb passed.0 failed.0) (both_first good within x)),
        λ m. (within-exact provplace floor passed).0 (
          leb-true 1 rank (both_first (leb 1 rank) (leb rank (floor_rank floor)) ranks),
          leb-true rank (floor_rank floor) (both-second (leb 1 rank) (leb rank (floor_rank floor)) ranks),
        ),
      )
  usable-parts false x = (
    eqb-false passed.0 failed.0
        (not-true (eqb passed.0 failed.0) (both_first (not (eqb passed.0 failed.0)) true x)),
    λ m. absurd (false≢true m),
  )

  usable-whole : (mode : Bool) → (passed.0 ≡ failed.0 → ⊥) → (mode ≡ true → Within provplace floor passed)
      → usable_in mode ≡ true
  unfolding is_usable ranked_quality
  usable-whole true n u =
      let h = (within-exact provplace floor passed).1 (u refl) in
      rw (
        ne_eqb passed.0 failed.0 n,
        le-leb 1 (rank_of provplace passed).0 h.0,
        le-leb (rank_of provplace passed).0 (floor_rank floor) h.1,
      )
  usable-whole false n u = rw (ne_eqb passed.0 failed.0 n)

  -- "Eligible: priority not 0, not locked, passed quality not 7, and with quality mode on passed quality" from 1 to the
  -- input's floor
  pub eligible-exact : (mode : Bool)
      → (is_eligible (candidate_of provplace floor passed priority locked mode) ≡ true)
      ↔ EligibleCandidate provplace floor passed priority locked mode
  unfolding is_eligible candidate_of is_admitted
  eligible-exact mode = (parts, whole)
    where
      on : Bool
      on = not (eqb priority.0 0)

      parts : ((on && not locked) && usable_in mode) ≡ true
          → EligibleCandidate provplace floor passed priority locked mode
      parts x =
          let admitted : (on && not locked) ≡ true = both_first (on && not locked) (usable_in mode) x in
          let usable = usable-parts mode (both-second (on && not locked) (usable_in mode) x) in
          record {
            not_off = eqb-false priority.0 0 (not-true (eqb priority.0 0) (both_first on (not locked) admitted));
            not_locked = not-true locked (both-second on (not locked) admitted);
            not_failed = usable.0;
            within = usable.1;
          }

      whole : EligibleCandidate provplace floor passed priority locked mode
          → ((on && not locked) && usable_in mode) ≡ true
      whole e =
          rw (ne_eqb priority.0 0 e.not_off, e.not_locked) (usable-whole mode e.not_failed e.within)

-- ---- is_better

-- "lower passed quality (mode on only), then lower priority number"
abbrev pub Before : Candidate → Candidate → Type 0
Before candidate other =
    (candidate.rank.0 < other.rank.0)
    ⊎ ((candidate.rank.0 ≡ other.rank.0) × (candidate.priority.0 < other.priority.0))

-- and not so
abbrev pub NotBefore : Candidate → Candidate → Type 0
NotBefore candidate other =
    (other.rank.0 < candidate.rank.0)
    ⊎ ((candidate.rank.0 ≡ other.rank.0) × (other.priority.0 ≤ candidate.priority.0))

module _ (candidate other : Candidate) where
  before-better : Before candidate other → is_better candidate other ≡ true
  before-better (inl h) = sym (is_better_rank candidate other h)
  before-better (inr h) = sym (is_better-priority candidate other h.0) ∙ lt-ltb _ _ h.1

  not_before_worse : NotBefore candidate other → is_better candidate other ≡ false
  not_before_worse (inl h) =
      let e : candidate.rank.0 ≡ other.rank.0 → ⊥ = λ x. omega arith in
      let k : other.rank.0 ≤ candidate.rank.0 = omega arith in
      sym (is_better_not candidate other k e)
  not_before_worse (inr h) = sym (is_better-priority candidate other h.0) ∙ le-ltb _ _ h.1

  before-decided : Before candidate other ⊎ NotBefore candidate other
  before-decided =
      by_bool (ltb candidate.rank.0 other.rank.0)
      (λ x. inl (inl (ltb-true candidate.rank.0 other.rank.0 x)))
      (λ x. by_bool (ltb other.rank.0 candidate.rank.0)
      (λ y. inr (inl (ltb-true other.rank.0 candidate.rank.0 y)))
      (λ y.
      let e : candidate.rank.0 ≡ other.rank.0 =
      omega (
        arith,
        ltb-false candidate.rank.0 other.rank.0 x,
        ltb-false other.rank.0 candidate.rank.0 y,
      ) in
      by_bool (ltb candidate.priority.0 other.priority.0)
      (λ z. inl (inr (e, ltb-true candidate.priority.0 other.priority.0 z)))
      (λ z. inr (inr (e, ltb-false candidate.priority.0 other.priority.0 z)))))

  better-before : is_better candidate other ≡ true → Before candidate other
  better-before x = ⊎_elim (λ h. h) (λ h. contra x (not_before_worse h)) before-decided

  worse_not_before : is_better candidate other ≡ false → NotBefore candidate other
  worse_not_before x = ⊎_elim (λ h. contra (before-better h) x) (λ h. h) before-decided

  -- "Better: lower passed quality (mode on only), then lower priority number"
  pub is_better-exact : (is_better candidate other ≡ true) ↔ Before candidate other
  is_better-exact = (better-before, before-better)

module _ (candidate middle other : Candidate) where
  before-transitive : Before candidate middle → Before middle other → Before candidate other
  before-transitive (inl x) (inl y) = inl (omega arith)
  before-transitive (inl x) (inr y) = inl (omega arith)
  before-transitive (inr x) (inl y) = inl (omega arith)
  before-transitive (inr x) (inr y) = inr (omega arith, omega arith)

  not_before_transitive : NotBefore candidate middle → NotBefore middle other → NotBefore candidate other
  not_before_transitive (inl x) (inl y) = inl (omega arith)
  not_before_transitive (inl x) (inr y) = inl (omega arith)
  not_before_transitive (inr x) (inl y) = inl (omega arith)
  not_before_transitive (inr x) (inr y) = inr (omega arith, omega arith)

-- better is a ranking
pub is_better_ranking : (candidates : List Candidate) → Ranking (better_among candidates)
is_better_ranking candidates =
    record {
      irreflexive = λ a. not_before_worse (at a) (at a) (inr (refl, omega arith));
      transitive = λ a b c x y.
          before-better (at a) (at c)
          (before-transitive (at a) (at b) (at c) (better-before (at a) (at b) x) (better-before (at b) (at c) y));
      negatively_transitive = λ a b c x y.
          not_before_worse (at a) (at c)
          (not_before_transitive (at a) (at b) (at c)
          (worse_not_before (at a) (at b) x) (worse_not_before (at b) (at c) y));
    }
  where
    at : ℕ → Candidate
    at number = get_or candidates number nobody

-- ---- is_like

alike_same : (one other : Bool) → alike one other ≡ true → one ≡ other
alike_same true other e = sym e
alike_same false true e = absurd (false≢true e)
alike_same false false e = refl

-- what a choice sees alike is the same to it
pub is_like-same : (seen other : Seen) → is_like seen other ≡ true → seen ≡ other
unfolding is_like
is_like-same seen other e =
    let first = eqb seen.passed.0 other.passed.0 in
    let second = eqb seen.priority.0 other.priority.0 in
    let third = eqb seen.floor other.floor in
    let fourth = alike seen.locked other.locked in
    let three = both_first (first && second && third) fourth e in
    let two = both_first (first && second) third three in
    let q : seen.passed.0 ≡ other.passed.0 = eqb-true _ _ (both_first first second two) in
    let p : seen.priority.0 ≡ other.priority.0 = eqb-true _ _ (both-second first second two) in
    let f : seen.floor ≡ other.floor = eqb-true _ _ (both-second (first && second) third three) in
    let l : seen.locked ≡ other.locked = alike_same _ _ (both-second (first && second && third) fourth e) in
    λ j. record {
      passed = record { 0 = q j };
      priority = record { 0 = p j };
      floor = f j;
      locked = l j;
    }

-- ---- any_lower

-- an input has lower quality
abbrev lower_at : List Candidate → Rank → ℕ → Bool
lower_at candidates rank number = ltb (get_or candidates number nobody).rank.0 rank.0

-- an input that is eligible with lower quality
pub record Lower (candidates : List Candidate) (rank : Rank) (number : ℕ) : Type 0 where
  pub is_eligible : eligible_among candidates number ≡ true
  pub is_lower : (get_or candidates number nobody).rank.0 < rank.0

module _ (candidates : List Candidate) (rank : Rank) where
  found-step : (count : ℕ) (test : Bool)
      → (eligible_among candidates count && lower_at candidates rank count) ≡ test
      → (lower_among candidates rank count ≡ true → (number : ℕ) × (number < count) × Lower candidates rank number)
      → cond test true (lower_among candidates rank count) ≡ true
      → (number : ℕ) × (number < suc count) × Lower candidates rank number
  found-step count true x f y = (
    count,
    omega arith,
    record {
      is_eligible = both_first (eligible_among candidates count) (lower_at candidates rank count) x;
      is_lower =
          ltb-true (get_or candidates count nobody).rank.0 rank.0
          (both-second (eligible_among candidates count) (lower_at candidates rank count) x);
    },
  )
  found-step count false x f y = let n = f y in (n.0, omega (arith, n.1), n.2)

  found_among : (count : ℕ) → lower_among candidates rank count ≡ true
      → (number : ℕ) × (number < count) × Lower candidates rank number
  unfolding lower_among is_lower
  found_among zero x = absurd (false≢true x)
  found_among (suc count) x =
      found-step count
      (eligible_among candidates count && lower_at candidates rank count)
      refl
      (found_among count)
      x

  some-step : (count number : ℕ) → Lower candidates rank number
      → (number < count → lower_among candidates rank count ≡ true)
      → number < suc count → lower_among candidates rank (suc count) ≡ true
  unfolding lower_among is_lower
  some-step count number l f h = go (ℕ_discrete number count)
    where
      later : (test rest : Bool) → rest ≡ true → cond test true rest ≡ true
      later true rest x = refl
      later false rest x = x

      go : Dec (number ≡ count) → lower_among candidates rank (suc count) ≡ true
      go (yes x) =
          rw (← x, l.is_eligible, lt-ltb (get_or candidates number nobody).rank.0 rank.0 l.is_lower)
      go (no x) =
          later (eligible_among candidates count && lower_at candidates rank count)
          (lower_among candidates rank count) (f (omega arith))

  some-among : (count number : ℕ) → Lower candidates rank number → number < count
      → lower_among candidates rank count ≡ true
  some-among zero number l h = absurd (omega arith)
  some-among (suc count) number l h = some-step count number l (some-among count number l) h

  -- one is lower only if an eligible one of the sixteen is
  pub lower-found : any_lower candidates rank ≡ true
      → (number : ℕ) × (number < input_count) × Lower candidates rank number
  lower-found = found_among input_count

  -- and if one is
  pub lower-some : (number : ℕ) → number < input_count → Lower candidates rank number
      → any_lower candidates rank ≡ true
  lower-some number h l = some-among input_count number l h

  -- none is lower: every eligible one of the sixteen has this quality or a higher one
  pub lower-none : any_lower candidates rank ≡ false → (number : ℕ) → number < input_count
      → eligible_among candidates number ≡ true → rank.0 ≤ (get_or candidates number nobody).rank.0
  lower-none x number h e =
      by_bool (ltb at.rank.0 rank.0)
      (λ y. let l : at.rank.0 < rank.0 = ltb-true at.rank.0 rank.0 y in
      contra (lower-some number h (record { is_eligible = e; is_lower = l })) x)
      (λ y. ltb-false at.rank.0 rank.0 y)
    where
      at : Candidate
      at = get_or candidates number nobody

  -- "an eligible input has lower passed quality (mode on)"
  pub lower-exact :
      (any_lower candidates rank ≡ true) ↔ ((number : ℕ) × (number < input_count) × Lower candidates rank number)
  lower-exact = (lower-found, λ n. lower-some n.0 n.1 n.2)
