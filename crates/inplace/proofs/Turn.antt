-- A turn of a loop that changes one input after another in place, and its end, for any change. Assumes nothing.
use Prim.Native.Nat.{ℕ, zero, suc, ◌+◌, ◌%◌, ◌<◌, ◌≤◌}
use mathlib.Core.Bool.{Bool, true, cond}
use mathlib.Core.List.{List, [], ◌∷◌, map}
use mathlib.Core.Path.{◌≡◌, refl, sym, ap, ◌∙◌}
use native.Mathlib.Omega.{arith}
use native.Mathlib.Nat.{add-zero}
use lib.Dec.{eqb}
use lib.ListN.{get_or, set, length, replicate}
use Rattle.std.specs.Prelude.{Option, Some}
use Rattle.numbers.specs.declared.Answer.{Answer}
use Rattle.numbers.specs.declared.InputNumber.{InputNumber}
use Rattle.numbers.specs.declared.profile.Profile.{Profile}
use Rattle.numbers.specs.declared.quality.Quality.{Quality}
use Rattle.numbers.specs.Profile.{halved, marks_of, told_by}
use Rattle.numbers.specs.Quality.{quality}
use Rattle.numbers.specs.Refusal.{accepted}
use Rattle.input.specs.declared.Input.{Input}
use Rattle.input.specs.Record.{fresh_input, with_run, input_brought_to, input_at_moment}
use Rattle.choice.specs.declared.Candidate.{Candidate}
use Rattle.choice.specs.declared.Leader.{Leader}
use Rattle.choice.specs.Candidate.{nobody, eligible_among}
use Rattle.choice.specs.Choice.{seeded}
use Rattle.choice.specs.Leader.{seed, offer, chosen_among, SeenAt}
use Rattle.choice.proofs.Leading.{leader-seeded, scan_none}
use Rattle.selector.specs.declared.Selector.{Selector}
use Rattle.selector.specs.State.{candidate_for, candidates_of, seen_all}
use Rattle.selector.proofs.Scanning.{leads_after, seen_one, candidate_in_outside, leader-more, leader-done}
use Rattle.selector.specs.Answer.{answer_of, quality_of, selected_number, sign_for, outgoing_signs, ports}
use Rattle.selector.proofs.Filled.{filled, filled-turn_in_place, filled-done}
use Rattle.selector.proofs.SelectorLaws.{get_d_past, sign_for-turn}
use Rattle.selector.proofs.Ports.{get_d_ports}
use Rattle.due.specs.Next.{lesser, next_of, next_among, next_of_all, next_due}
use Rattle.due.proofs.DueLaws.{next_among-more, next_among-all}
use Rattle.inplace.specs.Lists.{input_at, selector_at, with_inputs, with_input, framed_at, with_framed}
use Rattle.inplace.proofs.Columns.{writes-same, selector_stored}

-- a state whose first inputs have been changed
abbrev pub changed : (Input → Input) → ℕ → Selector → Selector
changed f count state = with_inputs state (filled f count state.inputs state.inputs)

pub inputs-length : (times small wider : List ℕ) → length (selector_at times small wider).inputs ≡ 16
unfolding selector_at
inputs-length times small wider = refl

pub inputs-at : (times small wider : List ℕ) (at : ℕ) (d : Input) → at < 16
    → get_or (selector_at times small wider).inputs at d ≡ input_at times small wider at
unfolding selector_at
inputs-at times small wider at d h = get_d_ports (input_at times small wider) d at h

pub turn : (f : Input → Input) (first : Selector) (times small wider : List ℕ) (after : Selector) (at : ℕ)
    (input : Input)
    → length first.inputs ≡ 16
    → selector_at times small wider ≡ changed f at first
    → after ≡ with_input (selector_at times small wider) at input
    → input ≡ f (input_at times small wider at)
    → at < 16
    → after ≡ changed f (at + 1) first
turn f first times small wider after at input l e p q h =
    let list : (selector_at times small wider).inputs ≡ filled f at first.inputs first.inputs =
    ap (λ (state : Selector). state.inputs) e in
    let made : input ≡ f (get_or (selector_at times small wider).inputs at fresh_input) =
    q ∙ ap f (sym (inputs-at times small wider at fresh_input h)) in
    let next : set (selector_at times small wider).inputs at input ≡ filled f (at + 1) first.inputs first.inputs =
    filled-turn_in_place f 16 at first.inputs (selector_at times small wider).inputs fresh_input input list made l
    h in
    p ∙ (λ j. with_inputs (e j) (next j))

pub done : (f : Input → Input) (first now : Selector) (at : ℕ) → length first.inputs ≡ 16
    → now ≡ changed f at first → at ≤ 16 → 16 ≤ at
    → now ≡ with_inputs first (map f first.inputs)
done f first now at l e h k =
    e ∙
    ap (λ (inputs : List Input). with_inputs first inputs)
    (filled-done f 16 at first.inputs first.inputs (filled f at first.inputs first.inputs) refl l l h k)

-- all made fresh
pub fresh-done : (times small wider : List ℕ) (now : Selector) (at : ℕ)
    → now ≡ changed (λ (one : Input). fresh_input) at (selector_at times small wider) → at ≤ 16 → 16 ≤ at
    → now ≡ with_inputs (selector_at times small wider) (replicate 16 fresh_input)
unfolding selector_at
fresh-done times small wider now at e h k =
    done (λ (one : Input). fresh_input) (selector_at times small wider) now at (inputs-length times small wider) e h k

-- an input brought to a time, by its run
pub brought : (input before after : Input) (time : ℕ) (mode : Bool) → before ≡ input
    → after ≡ input_brought_to before time mode
    → with_run input after.run ≡ input_brought_to input time mode
unfolding input_brought_to
brought input before after time mode p q = rw (q, p)

-- at the moment of an event, by its run
pub momentary : (input before after : Input) (time : ℕ) (mode clears : Bool) → before ≡ input
    → after ≡ input_at_moment before time mode clears
    → with_run input after.run ≡ input_at_moment input time mode clears
unfolding input_at_moment
momentary input before after time mode clears p q = rw (q, p)

-- ---- an input by its number

pub input_at_inside : (times small wider : List ℕ) (number : ℕ) (found : Input) → number < 16
    → found ≡ input_at times small wider number
    → found ≡ get_or (selector_at times small wider).inputs number fresh_input
input_at_inside times small wider number found h e = e ∙ sym (inputs-at times small wider number fresh_input h)

pub input_at_past : (times small wider : List ℕ) (number : ℕ) (found : Input) → 16 ≤ number → found ≡ fresh_input
    → found ≡ get_or (selector_at times small wider).inputs number fresh_input
input_at_past times small wider number found h e =
    let l : length (selector_at times small wider).inputs ≡ 16 = inputs-length times small wider in
    let m : length (selector_at times small wider).inputs ≤ number = omega arith in
    e ∙ sym (get_d_past (selector_at times small wider).inputs number fresh_input m)

set_past : {A : Type 0} (list : List A) (number : ℕ) (x : A) → length list ≤ number → set list number x ≡ list
set_past [] number x h = refl
set_past (y ∷ list) zero x h = absurd (omega arith)
set_past (y ∷ list) (suc number) x h = ap (λ (rest : List _). y ∷ rest) (set_past list number x (omega arith))

-- no input is stored where there is no such number
pub stored_past : (times small wider : List ℕ) (number : ℕ) (input : Input) → 16 ≤ number
    → selector_at times small wider ≡ with_input (selector_at times small wider) number input
stored_past times small wider number input h =
    let l : length (selector_at times small wider).inputs ≡ 16 = inputs-length times small wider in
    let m : length (selector_at times small wider).inputs ≤ number = omega arith in
    ap (λ (list : List Input). with_inputs (selector_at times small wider) list)
    (sym (set_past (selector_at times small wider).inputs number input m))

-- when the last frame came stored
pub framed-stored : (times : List ℕ) (at framed : ℕ) → at < 16 → length times ≡ 33
    → (small wider : List ℕ)
    → selector_at (set times at framed) small wider ≡ with_framed (selector_at times small wider) at framed
unfolding input_at
framed-stored times at framed h long small wider =
    let ts : List (ℕ × ℕ) = (0, framed) ∷ [] in
    ap (λ (place : ℕ). selector_at (set times place framed) small wider) (sym (add-zero at)) ∙
    selector_stored times small wider at h ts [] [] refl refl refl
    (writes-same 2 at h ts times refl (omega arith)) refl refl ∙
    ap (λ (input : Input). with_input (selector_at times small wider) at (framed_at input framed))
    (sym (inputs-at times small wider at fresh_input h))

pub framed-past : (times : List ℕ) (number framed : ℕ) → 16 ≤ number
    → (small wider : List ℕ)
    → selector_at times small wider ≡ with_framed (selector_at times small wider) number framed
framed-past times number framed h small wider =
    stored_past times small wider number
    (framed_at (get_or (selector_at times small wider).inputs number fresh_input) framed) h

-- ---- a loop that looks at one input after another

module _ (times small wider : List ℕ) (at : ℕ) (input : Input) (seen : input ≡ input_at times small wider at)
    (h : at < 16) where
  seen_at : (d : Input) → input ≡ get_or (selector_at times small wider).inputs at d
  seen_at d = seen ∙ sym (inputs-at times small wider at d h)

  -- and is offered to a choice
  pub leader-turn : (profile : Profile) (mode : Bool) (before : Option InputNumber) (leader next : Leader) (candidate : Candidate)
      → leader ≡ leads_after (candidates_of profile (selector_at times small wider).inputs mode) at before
      → candidate ≡ candidate_for profile mode input → next ≡ offer leader (record { 0 = at }) candidate
      → next ≡ leads_after (candidates_of profile (selector_at times small wider).inputs mode) (at + 1) before
  leader-turn profile mode before leader next candidate l c o =
      leader-more profile mode (selector_at times small wider).inputs fresh_input before leader next at candidate l
      (c ∙ ap (candidate_for profile mode) (seen_at fresh_input))
      o
      h
      (inputs-length times small wider)

  -- and is seen by a choice
  pub candidate-inside : (profile : Profile) (mode : Bool) (candidate : Candidate)
      → profile ≡ (selector_at times small wider).profile → mode ≡ (selector_at times small wider).mode
      → candidate ≡ candidate_for profile mode input → candidate ≡ get_or (seen_all (selector_at times small wider)) at nobody
  candidate-inside profile mode candidate p m c =
      seen_one (selector_at times small wider).profile (selector_at times small wider).mode
      (selector_at times small wider).inputs fresh_input at candidate
      (c ∙ (λ j. candidate_for (p j) (m j) (seen_at fresh_input j)))
      h
      (inputs-length times small wider)

  -- and tells a port its code or its word
  pub sign-turn : {Sign : Type 0} (rule : Bool → Bool → Bool → Sign → Sign) (mode : Bool) (selected marks rest : ℕ)
      (sign first : Sign) (into now : List Sign) (chosen told : Sign)
      → now ≡ filled (sign_for rule (selector_at times small wider).inputs mode selected marks sign first) at ports into
      → rest ≡ halved at marks
      → chosen ≡ cond (eqb (rest % 2) 1) first sign
      → told ≡ rule mode input.settings.sending (eqb selected at) chosen
      → length into ≡ 16
      → set now at told
      ≡ filled (sign_for rule (selector_at times small wider).inputs mode selected marks sign first) (at + 1) ports into
  sign-turn rule mode selected marks rest sign first into now chosen told e r c o l =
      sign_for-turn rule (selector_at times small wider).inputs mode selected marks sign first at rest into now chosen
      told fresh_input e r c
      (o ∙ ap (λ (one : Input). rule mode one.settings.sending (eqb selected at) chosen) (seen_at fresh_input))
      (inputs-length times small wider)
      l
      h

  -- and reckons what is next due
  pub due-turn : (mode : Bool) (time due one next : ℕ)
      → due ≡ next_among (selector_at times small wider).inputs mode time at
      → one ≡ next_of input mode time → next ≡ lesser due one
      → next ≡ next_among (selector_at times small wider).inputs mode time (at + 1)
  due-turn mode time due one next d o n =
      next_among-more (selector_at times small wider).inputs mode time at due one next fresh_input d
      (o ∙ ap (λ (i : Input). next_of i mode time) (seen_at fresh_input))
      n
      (inputs-length times small wider)
      h

-- no such input is seen by a choice
pub candidate-outside : (times small wider : List ℕ) (number : ℕ) → 16 ≤ number
    → nobody ≡ get_or (seen_all (selector_at times small wider)) number nobody
candidate-outside times small wider number h =
    candidate_in_outside (selector_at times small wider).profile (selector_at times small wider).mode
    (selector_at times small wider).inputs number h (inputs-length times small wider)

-- the choice before its loop, and after it
pub leader-begin : (times small wider : List ℕ) (profile : Profile) (mode : Bool) (before : Option InputNumber) (number : ℕ)
    (seen : Candidate) (leader : Leader)
    → profile ≡ (selector_at times small wider).profile → mode ≡ (selector_at times small wider).mode
    → number ≡ selected_number before → seen ≡ get_or (seen_all (selector_at times small wider)) number nobody
    → leader ≡ seed before seen
    → leader ≡ leads_after (candidates_of profile (selector_at times small wider).inputs mode) 0 before
unfolding selected_number
leader-begin times small wider profile mode before number seen leader p m n s l =
    scan_none all leader (seeded (eligible_among all) before) (l ∙ leader-seeded all before seen sees)
    ∙ (λ j. leads_after (candidates_of (sym p j) (selector_at times small wider).inputs (sym m j)) 0 before)
  where
    all : List Candidate
    all = seen_all (selector_at times small wider)

    sees : (earlier : InputNumber) → before ≡ Some earlier → SeenAt all earlier seen
    sees earlier is inside = s ∙ ap (λ x. get_or all x nobody) (n ∙ ap selected_number is)

pub leader-end : (times small wider : List ℕ) (profile : Profile) (mode : Bool) (before : Option InputNumber) (leader : Leader)
    (at : ℕ)
    → leader ≡ leads_after (candidates_of profile (selector_at times small wider).inputs mode) at before
    → profile ≡ (selector_at times small wider).profile → mode ≡ (selector_at times small wider).mode → at ≤ 16 → 16 ≤ at
    → leader ≡ chosen_among (seen_all (selector_at times small wider)) before
leader-end times small wider profile mode before leader at l p m h k =
    leader-done (candidates_of profile (selector_at times small wider).inputs mode) before leader at l h k
    ∙ (λ j. chosen_among (candidates_of (p j) (selector_at times small wider).inputs (m j)) before)

pub due-done : (times small wider : List ℕ) (mode : Bool) (time at due : ℕ)
    → due ≡ next_among (selector_at times small wider).inputs mode time at
    → mode ≡ (selector_at times small wider).mode → time ≡ (selector_at times small wider).time → at ≤ 16 → 16 ≤ at
    → due ≡ next_due (selector_at times small wider)
due-done times small wider mode time at due e m t h k =
    next_among-all (selector_at times small wider).inputs mode time at due e h k ∙
    (λ j. next_of_all (selector_at times small wider).inputs (m j) (t j))

-- what goes out of the sixteen ports, call by call
pub signs_told : {Sign : Type 0} (rule : Bool → Bool → Bool → Sign → Sign) (says : Profile → Quality → Sign)
    (state : Selector) (profile : Profile) (mode : Bool) (told : Answer) (later : Quality) (sign first : Sign)
    (marks : ℕ) (list : List Sign)
    → told ≡ answer_of accepted state → profile ≡ state.profile → mode ≡ state.mode
    → sign ≡ says profile (quality told.clockquality) → later ≡ told_by true (quality told.clockquality)
    → first ≡ says profile later → marks ≡ marks_of profile
    → list ≡ map (sign_for rule state.inputs mode told.selected marks sign first) ports
    → list ≡ outgoing_signs rule says state
unfolding answer_of
signs_told rule says state profile mode told later sign first marks list t p m s l f k e =
    let n : told.selected ≡ selected_number state.selection = ap (λ (one : Answer). one.selected) t in
    let q : quality told.clockquality ≡ quality_of state = ap (λ (one : Answer). quality one.clockquality) t in
    let s' : sign ≡ says state.profile (quality_of state) = s ∙ (λ j. says (p j) (q j)) in
    let f' : first ≡ says state.profile (told_by true (quality_of state)) =
    f ∙ (λ j. says (p j) ((l ∙ ap (told_by true) q) j)) in
    let k' : marks ≡ marks_of state.profile = k ∙ ap marks_of p in
    e ∙ (λ j. map (sign_for rule state.inputs (m j) (n j) (k' j) (s' j) (f' j)) ports)
