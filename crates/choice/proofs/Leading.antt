-- The choice in one scan: the one that leads is what `specs/Choice` computes, with its rank and priority. Assumes
-- nothing.
use Prim.Native.Nat.{ℕ, ◌+◌, ◌≤◌, ◌<◌}
use mathlib.Core.Bool.{true, not}
use mathlib.Core.List.{List}
use mathlib.Core.Path.{◌≡◌, refl, ap, sym, ◌∙◌}
use native.Mathlib.Omega.{arith}
use native.Mathlib.Numerals.{add-one}
use lib.Dec.{leb, ltb}
use lib.ListN.{get_or}
use borrow.Author.Tests.{ltb-true, ltb-false, le-leb, lt-leb}
use Rattle.std.specs.Prelude.{Option, Some, None}
use Rattle.numbers.proofs.Truth.{by_bool, contra}
use Rattle.numbers.specs.declared.InputNumber.{InputNumber}
use Rattle.numbers.specs.Inputs.{input_count}
use Rattle.choice.specs.declared.Candidate.{Candidate}
use Rattle.choice.specs.declared.Leader.{Leader}
use Rattle.choice.specs.Candidate.{nobody, is_eligible, is_better, eligible_among, better_among, any_lower}
use Rattle.choice.specs.Choice.{Chosen, seeded, offered, scanned, choose}
use Rattle.choice.specs.Leader.{seed, is_passed, offer, leader_among, chosen_among, SeenAt}
use Rattle.choice.proofs.Choosing.{choose-chosen, selected-injective, nothing-selected}
use Rattle.choice.proofs.Ranks.{is_better_ranking, lower-found, lower-none}
use Rattle.choice.proofs.ChoiceLaws.{is_better_rank}

module _ (candidates : List Candidate) where
  abbrev scanned_among : ℕ → Option InputNumber → Option InputNumber
  scanned_among count first = scanned (eligible_among candidates) (better_among candidates) count first

  -- the selection of a leader is the one that leads
  pub leader-selection : (selection : Option InputNumber) → (leader_among candidates selection).selection ≡ selection
  unfolding leader_among
  leader-selection None = refl
  leader-selection (Some number) = refl

  -- the seed is the one of the choice
  pub leader-seeded : (before : Option InputNumber) (candidate : Candidate)
      → ((earlier : InputNumber) → before ≡ Some earlier → SeenAt candidates earlier candidate)
      → seed before candidate ≡ leader_among candidates (seeded (eligible_among candidates) before)
  unfolding seed seeded leader_among
  leader-seeded None candidate sees = refl
  leader-seeded (Some earlier) candidate sees =
      by_bool (ltb earlier.0 input_count)
      (λ x. let seen = sees earlier refl (ltb-true earlier.0 input_count x) in
      by_bool (is_eligible (get_or candidates earlier.0 nobody))
      (λ e. rw (seen, x, e))
      (λ e. rw (seen, x, e)))
      (λ x. rw x)

  -- what is offered to a leader is offered to the choice
  pub leader-offered : (leader : Option InputNumber) (number : InputNumber) (candidate : Candidate)
      → candidate ≡ get_or candidates number.0 nobody
      → offer (leader_among candidates leader) number candidate
      ≡ leader_among candidates (offered (eligible_among candidates) (better_among candidates) number.0 leader)
  unfolding offer offered leader_among is_passed is_better
  leader-offered None number candidate seen =
      by_bool (is_eligible (get_or candidates number.0 nobody)) (λ e. rw (seen, e)) (λ e. rw (seen, e))
  leader-offered (Some leading) number candidate seen =
      by_bool (is_eligible (get_or candidates number.0 nobody))
      (λ e. by_bool (is_better (get_or candidates number.0 nobody) (get_or candidates leading.0 nobody))
      (λ b. rw (seen, e, b))
      (λ b. rw (seen, e, b)))
      (λ e. rw (seen, e))

  -- ---- the loop that offers the sixteen

  pub scan_none : (first : Leader) (seeds : Option InputNumber) → first ≡ leader_among candidates seeds
      → first ≡ leader_among candidates (scanned_among 0 seeds)
  unfolding scanned
  scan_none first seeds f = f

  pub scan_more : (seeds : Option InputNumber) (leader next : Leader) (count : ℕ) (number : InputNumber) (candidate : Candidate)
      → number.0 ≡ count
      → leader ≡ leader_among candidates (scanned_among count seeds)
      → candidate ≡ get_or candidates count nobody
      → next ≡ offer leader number candidate
      → next ≡ leader_among candidates (scanned_among (count + 1) seeds)
  unfolding scanned
  scan_more seeds leader next count number candidate n l c o =
      rw (add-one count)
      (o ∙ ap (λ x. offer x number candidate) l
      ∙ leader-offered (scanned_among count seeds) number candidate (c ∙ ap (λ x. get_or candidates x nobody) (sym n))
      ∙ ap (λ x. leader_among candidates (offered (eligible_among candidates) (better_among candidates) x (scanned_among count seeds))) n)

  pub scan_all : (before : Option InputNumber) (leader : Leader) (count : ℕ)
      → leader ≡ leader_among candidates (scanned_among count (seeded (eligible_among candidates) before))
      → count ≤ input_count → input_count ≤ count → leader ≡ chosen_among candidates before
  unfolding choose
  scan_all before leader count l h k = let z : count ≡ input_count = omega arith in rw (← z) l

  -- ---- the choice is eligible, and has the lowest rank of the eligible ones

  module _ (before : Option InputNumber) where
    abbrev ChosenAmong : Option InputNumber → Type 0
    ChosenAmong answer = Chosen (eligible_among candidates) (better_among candidates) before answer

    abbrev choice : Option InputNumber
    choice = choose (eligible_among candidates) (better_among candidates) before

    choice-right : ChosenAmong choice
    choice-right = choose-chosen (eligible_among candidates) (better_among candidates) before (is_better_ranking candidates)

    eligible-at : (answer : Option InputNumber) → ChosenAmong answer → (number : InputNumber) → answer ≡ Some number
        → eligible_among candidates number.0 ≡ true
    eligible-at None right number e = absurd (nothing-selected number.0 e)
    eligible-at (Some chosen) right number e =
        ap (eligible_among candidates) (sym (selected-injective chosen.0 number.0 e)) ∙ right.is_eligible

    -- the choice is eligible
    pub choice-eligible : (number : InputNumber) → choice ≡ Some number → eligible_among candidates number.0 ≡ true
    choice-eligible = eligible-at choice choice-right

    module _ (number : ℕ) (inside : number < input_count) (eligible : eligible_among candidates number ≡ true) where
      abbrev own : Candidate
      own = get_or candidates number nobody

      lowest-at : (answer : Option InputNumber) → ChosenAmong answer
          → leb own.rank.0 (leader_among candidates answer).rank.0 ≡ not (any_lower candidates own.rank)
      unfolding leader_among
      lowest-at None right = contra eligible (right number inside)
      lowest-at (Some chosen) right =
          let best = get_or candidates chosen.0 nobody in
          by_bool (any_lower candidates own.rank)
          (λ some.
          let found = lower-found candidates own.rank some in
          let lower = get_or candidates found.0 nobody in
          let behind : best.rank.0 ≤ lower.rank.0 =
          by_bool (ltb lower.rank.0 best.rank.0)
          (λ x. contra (sym (is_better_rank lower best (ltb-true lower.rank.0 best.rank.0 x)))
          (right.best found.0 found.1 found.2.is_eligible))
          (λ x. ltb-false lower.rank.0 best.rank.0 x) in
          let less : best.rank.0 < own.rank.0 = omega (arith, behind, found.2.is_lower) in
          rw (some, lt-leb _ _ less))
          (λ none.
          let least : own.rank.0 ≤ best.rank.0 =
          lower-none candidates own.rank none chosen.0 right.inside right.is_eligible in
          rw (none, le-leb own.rank.0 best.rank.0 least))

      -- of an eligible input: no eligible one has lower rank exactly where the choice has not
      pub choice-lowest : leb own.rank.0 (chosen_among candidates before).rank.0 ≡ not (any_lower candidates own.rank)
      choice-lowest = lowest-at choice choice-right
