-- The choice over a state's inputs, one offered after another: laws of a loop over any sixteen. Assumes nothing.
use Prim.Native.Nat.{ℕ, zero, suc, ◌+◌, ◌≤◌, ◌<◌}
use mathlib.Core.Bool.{Bool}
use mathlib.Core.List.{List, [], ◌∷◌, map}
use mathlib.Core.Path.{◌≡◌, refl, ap, sym, ◌∙◌}
use native.Mathlib.Omega.{arith}
use lib.ListN.{length, get_or, get_or-eq_default}
use Rattle.std.specs.Prelude.{Option}
use Rattle.numbers.specs.declared.InputNumber.{InputNumber}
use Rattle.numbers.specs.declared.profile.Profile.{Profile}
use Rattle.input.specs.declared.Input.{Input}
use Rattle.choice.specs.declared.Candidate.{Candidate}
use Rattle.choice.specs.declared.Leader.{Leader}
use Rattle.choice.specs.Candidate.{nobody, eligible_among, better_among}
use Rattle.choice.specs.Choice.{seeded, scanned}
use Rattle.choice.specs.Leader.{offer, leader_among, chosen_among}
use Rattle.choice.proofs.Leading.{scan_more, scan_all}
use Rattle.switch.specs.declared.Switch.{Switch}
use Rattle.switch.specs.declared.AfterChoice.{AfterChoice}
use Rattle.switch.specs.OneChoice.{decide}
use Rattle.switch.specs.OneScan.{decide_by, SeenOn}
use Rattle.switch.proofs.Scanned.{decide_by-decide}
use Rattle.selector.specs.State.{candidate_for, candidates_of}

get_d_seen : {A B : Type 0} (f : A → B) (list : List A) (number : ℕ) (d : A) (e : B) → number < length list
    → f (get_or list number d) ≡ get_or (map f list) number e
get_d_seen f [] number d e h = absurd (omega arith)
get_d_seen f (x ∷ list) zero d e h = refl
get_d_seen f (x ∷ list) (suc number) d e h = get_d_seen f list number d e (omega arith)

pub map-length : {A B : Type 0} (f : A → B) (list : List A) → length (map f list) ≡ length list
map-length f [] = refl
map-length f (x ∷ list) = ap suc (map-length f list)

-- what leads once the first `count` of candidates have been offered
abbrev pub leads_after : List Candidate → ℕ → Option InputNumber → Leader
leads_after candidates count before =
    leader_among candidates
    (scanned (eligible_among candidates) (better_among candidates) count (seeded (eligible_among candidates) before))

module _ (profile : Profile) (mode : Bool) (inputs : List Input) (zeroed : Input) where
  abbrev all : List Candidate
  all = candidates_of profile inputs mode

  -- an input of the sixteen as a choice sees it
  pub seen_one : (number : ℕ) (candidate : Candidate) → candidate ≡ candidate_for profile mode (get_or inputs number zeroed)
      → number < 16 → length inputs ≡ 16 → candidate ≡ get_or all number nobody
  seen_one number candidate c h k =
      let m : number < length inputs = omega arith in
      c ∙ get_d_seen (candidate_for profile mode) inputs number zeroed nobody m

  -- a turn of the loop
  pub leader-more : (before : Option InputNumber) (leader next : Leader) (count : ℕ) (candidate : Candidate)
      → leader ≡ leads_after all count before
      → candidate ≡ candidate_for profile mode (get_or inputs count zeroed) → next ≡ offer leader (record { 0 = count }) candidate
      → count < 16 → length inputs ≡ 16 → next ≡ leads_after all (count + 1) before
  leader-more before leader next count candidate l c o h k =
      scan_more all (seeded (eligible_among all) before) leader next count (record { 0 = count }) candidate refl l
      (seen_one count candidate c h k) o

-- the loop's end
pub leader-done : (candidates : List Candidate) (before : Option InputNumber) (leader : Leader) (count : ℕ)
    → leader ≡ leads_after candidates count before → count ≤ 16 → 16 ≤ count → leader ≡ chosen_among candidates before
leader-done = scan_all

-- and the choice made of it
pub decided-one : (profile : Profile) (mode : Bool) (inputs : List Input) (switch : Switch) (before : Option InputNumber)
    (waslocked : Bool) (own : Candidate) (leader : Leader) (choice : AfterChoice)
    → SeenOn (candidates_of profile inputs mode) switch own
    → leader ≡ chosen_among (candidates_of profile inputs mode) before
    → choice ≡ decide_by switch own leader waslocked → length inputs ≡ 16
    → choice ≡ decide (candidates_of profile inputs mode) switch before waslocked
decided-one profile mode inputs switch before waslocked own leader choice seen l c k =
    c ∙ ap (λ x. decide_by switch own x waslocked) l
    ∙ decide_by-decide (candidates_of profile inputs mode) before
    (map-length (candidate_for profile mode) inputs ∙ k) switch own waslocked seen

-- ---- a number that no input has

pub candidate_in_outside : (profile : Profile) (mode : Bool) (inputs : List Input) (number : ℕ) → 16 ≤ number
    → length inputs ≡ 16 → nobody ≡ get_or (candidates_of profile inputs mode) number nobody
candidate_in_outside profile mode inputs number h k =
    let m : length (candidates_of profile inputs mode) ≤ number =
    omega (arith, h, k, map-length (candidate_for profile mode) inputs) in
    sym (get_or-eq_default (candidates_of profile inputs mode) nobody m)
