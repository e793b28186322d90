-- The definitions of `specs/`, a law for each way through a function of `onestep` that meets it. Assumes nothing.
use Prim.Native.Nat.{ℕ, ◌≤◌, ◌<◌}
use mathlib.Core.Bool.{Bool, true, false}
use mathlib.Core.List.{List, map}
use mathlib.Core.Path.{◌≡◌, refl, sym, ◌∙◌, ap}
use native.Mathlib.Omega.{arith}
use lib.Dec.{eqb, ltb}
use lib.ListN.{length, get_or, set, get_or-eq_default}
use borrow.Author.Tests.{eq-eqb, ne_eqb, eqb-false, le-leb, lt-leb, ltb-true, ltb-false, not-true, not-false}
use Rattle.std.specs.Prelude.{Option}
use Rattle.numbers.specs.declared.Event.{Event}
use Rattle.numbers.specs.declared.InputNumber.{InputNumber}
use Rattle.numbers.specs.declared.profile.Profile.{Profile}
use Rattle.numbers.specs.Recorded.{Recorded, said_event}
use Rattle.numbers.specs.Inputs.{input_count}
use Rattle.numbers.specs.Kind.{kind_forced, kind_manual, kind_quality_mode}
use Rattle.numbers.specs.Refusal.{accepted}
use Rattle.frame.specs.declared.FrameRead.{FrameRead}
use Rattle.input.specs.declared.Input.{Input}
use Rattle.input.specs.Record.{fresh_input, input_at_moment}
use Rattle.choice.specs.declared.Candidate.{Candidate}
use Rattle.choice.specs.declared.Leader.{Leader}
use Rattle.choice.specs.Candidate.{nobody, is_eligible, any_lower}
use Rattle.choice.specs.Leader.{chosen_among}
use Rattle.choice.proofs.Leading.{choice-lowest}
use Rattle.switch.specs.declared.Switch.{Switch}
use Rattle.switch.specs.Choices.{commanded}
use Rattle.selector.specs.declared.Selector.{Selector}
use Rattle.selector.specs.State.{candidate_for, seen_all, decided}
use Rattle.selector.proofs.Scanning.{map-length}
use Rattle.due.specs.Served.{most_served, served, ticked}
use Rattle.due.proofs.ServesEachDue.{served-most}
use Rattle.numbers.specs.Rows.{first_that_applies}
use Rattle.numbers.proofs.Truth.{by_bool, contra, or_first, or_second}
use Rattle.events.specs.Refusals.{is_judged_late, ScannedOn, late_refusal}
use Rattle.events.specs.Step.{input_after, inputs_after, mode_after, at_its_moment, early_number, late_number, step_ticked, step_read}

-- ---- late_refusal

pub late_refusal-other : (candidates : List Candidate) (switch : Switch) (kind on : ℕ)
    → (kind ≡ kind_forced → ⊥) → (kind ≡ kind_manual → ⊥) → accepted ≡ late_refusal candidates switch kind on
unfolding late_refusal first_that_applies
late_refusal-other candidates switch kind on n m = rw (ne_eqb _ _ n, ne_eqb _ _ m)

nobody_not : is_eligible nobody ≡ false
unfolding is_eligible
nobody_not = refl

-- what a scan finds: the choice has the lowest rank of the eligible ones
pub scanned-on : (candidates : List Candidate) (before : Option InputNumber) (on : ℕ) (own : Candidate) (leader : Leader)
    → own ≡ get_or candidates on nobody → leader ≡ chosen_among candidates before → length candidates ≡ 16
    → ScannedOn candidates on own leader.rank
scanned-on candidates before on own leader seen l sixteen =
    record { seen = seen; lowest = λ eligible. lowest (sym (ap is_eligible seen) ∙ eligible) }
  where
    other : Candidate
    other = get_or candidates on nobody

    chosen : Leader
    chosen = chosen_among candidates before

    inside : is_eligible other ≡ true → on < input_count
    inside eligible =
        by_bool (ltb on input_count)
        (λ x. ltb-true on input_count x)
        (λ x. let past : length candidates ≤ on = omega (arith, sixteen, ltb-false on input_count x) in
        contra eligible (ap is_eligible (get_or-eq_default candidates nobody past) ∙ nobody_not))

    among : is_eligible other ≡ true → ltb chosen.rank.0 other.rank.0 ≡ any_lower candidates other.rank
    among eligible =
        let alike = choice-lowest candidates before on (inside eligible) eligible in
        by_bool (ltb chosen.rank.0 other.rank.0)
        (λ x. x ∙ sym (not-false _ (sym alike ∙ lt-leb _ _ (ltb-true chosen.rank.0 other.rank.0 x))))
        (λ x. x ∙ sym (not-true _ (sym alike ∙ le-leb _ _ (ltb-false chosen.rank.0 other.rank.0 x))))

    lowest : is_eligible other ≡ true → ltb leader.rank.0 own.rank.0 ≡ any_lower candidates own.rank
    lowest eligible =
        ap (λ (x : Leader). ltb x.rank.0 own.rank.0) l
        ∙ ap (λ (x : Candidate). ltb chosen.rank.0 x.rank.0) seen
        ∙ among eligible ∙ ap (λ (x : Candidate). any_lower candidates x.rank) (sym seen)

-- ---- late_number

module _ (state : Selector) (event : Event) where
  pub late-judged : (switch : Switch) (own : Candidate) (leader : Leader) (late : ℕ) (before : Option InputNumber)
      → switch ≡ state.switch
      → own ≡ get_or (seen_all state) event.input nobody
      → leader ≡ chosen_among (seen_all state) before
      → length state.inputs ≡ 16
      → ((candidates : List Candidate) (on : ℕ) → ScannedOn candidates on own leader.rank
      → late ≡ late_refusal candidates switch event.kind on)
      → late ≡ late_number state event
  late-judged switch own leader late before s o l k r =
      r (seen_all state) event.input
      (scanned-on (seen_all state) before event.input own leader o l
      (map-length (candidate_for state.profile state.mode) state.inputs ∙ k))
      ∙ ap (λ (x : Switch). late_refusal (seen_all state) x event.kind event.input) s

  pub late-never : (judged : Bool) → judged ≡ is_judged_late event.kind → judged ≡ false
      → accepted ≡ late_number state event
  unfolding is_judged_late
  late-never judged j no_such =
      let never : is_judged_late event.kind ≡ false = sym j ∙ no_such in
      late_refusal-other (seen_all state) state.switch event.kind event.input
      (eqb-false event.kind kind_forced
      (or_first (eqb event.kind kind_forced) (eqb event.kind kind_manual) never))
      (eqb-false event.kind kind_manual
      (or_second (eqb event.kind kind_forced) (eqb event.kind kind_manual) never))

-- ---- inputs_after

module _ (inputs : List Input) (profile : Profile) (event : Event) (mode : Bool) where
  pub inputs_after-mode : (all : List Input) → event.kind ≡ kind_quality_mode
      → all ≡ map (λ (input : Input). input_at_moment input event.time mode false) inputs
      → all ≡ inputs_after inputs (said_event profile event) mode
  unfolding inputs_after
  inputs_after-mode all k a = a ∙ (rw (eq-eqb _ _ k))

  pub inputs_after-own : (before after : Input) → (event.kind ≡ kind_quality_mode → ⊥)
      → before ≡ get_or inputs event.input fresh_input
      → after ≡ input_after before (said_event profile event) mode
      → set inputs event.input after ≡ inputs_after inputs (said_event profile event) mode
  unfolding inputs_after
  inputs_after-own before after n b a = rw (ne_eqb _ _ n, a, b)

-- ---- at_its_moment

pub at_its_moment_calls : (state : Selector) (event : Recorded) (mode : Bool) (switch : Switch) (inputs : List Input)
    (answer : Selector)
    → mode ≡ mode_after event.kind event.argument state.mode
    → switch ≡ commanded event.kind event.input state.switch
    → inputs ≡ inputs_after state.inputs event mode
    → answer ≡
    decided
    record {
      inputs = inputs;
      time = state.time;
      switch = switch;
      selection = state.selection;
      profile = state.profile;
      mode = mode;
      waslocked = state.waslocked;
    }
    → answer ≡ at_its_moment state event
unfolding at_its_moment
at_its_moment_calls state event mode switch inputs answer m s i a = a ∙ rw (i, s, m)

-- ---- its count

-- refused or not, the count is the tick's
step_ticked-count : (state : Selector) (count : ℕ) (event : Event) (read : FrameRead)
    → count ≡ (step_ticked state count event read).count
step_ticked-count state count event read =
    by_bool (eqb (late_number state event) accepted) (λ none. rw none) (λ refused. rw refused)

-- at most 48, whatever the state
pub step_read-most : (state : Selector) (event : Event) (read : FrameRead)
    → (step_read state event read).count ≤ most_served
unfolding step_read
step_read-most state event read =
    by_bool (eqb (early_number state event read) accepted)
    (λ none. rw none
    (omega (
      arith,
      step_ticked-count (ticked state event.time) (served state event.time).count event read,
      served-most state event.time,
    )))
    (λ refused. rw refused (omega arith))
