-- The clock is locked exactly if something usable is selected; floors and fixed qualities stay in their ranges, and
-- what is never usable follows. Cites `happened`, `demand_2_answers` and `demand_3`; of usable `eligible-exact`.
-- Assumes nothing.
use Prim.Native.Nat.{ℕ, ◌≤◌, ◌<◌}
use mathlib.Core.Bool.{Bool, true, false, not, ◌&&◌, cond, true≢false}
use mathlib.Core.Logic.{◌⊎◌, inl, inr, ◌↔◌}
use mathlib.Core.Path.{◌≡◌, refl, sym, ◌∙◌, ap, subst}
use native.Mathlib.Omega.{arith}
use lib.Dec.{eqb}
use borrow.Author.Tests.{eqb-true, ne_eqb, not-false}
use Rattle.std.specs.Prelude.{Option, Some, None}
use Rattle.numbers.specs.declared.InputNumber.{InputNumber}
use Rattle.numbers.specs.declared.quality.Quality.{Quality}
use Rattle.numbers.specs.declared.profile.Profile.{Profile}
use Rattle.numbers.specs.declared.profile.Profile.TheVariants as P
use Rattle.numbers.specs.From.{started, ◌following◌, profile_of}
use Rattle.numbers.specs.Kind.{known_row_of, kind_frame, kind_tick, kind_fixed_quality, kind_floor}
use Rattle.numbers.specs.Profile.{limits_of, floor_in, prov_place_of, last_prov_place}
use Rattle.numbers.specs.Quality.{prov, dus, invalid}
use Rattle.numbers.specs.Refusal.{accepted}
use Rattle.numbers.proofs.Truth.{by_bool, both-second}
use Rattle.frame.specs.Read.{read_code}
use Rattle.input.specs.Recorded.{History, tick_event, is_on, last_argument, input_kind, mode_on, floor_of, fixed_of, time_of, priority_of, is_locked_out, PassedAt, passed_at}
use Rattle.choice.specs.declared.Candidate.{Candidate}
use Rattle.choice.specs.Candidate as Seen
use Rattle.choice.specs.Candidate.{is_admitted, ranked_quality, candidate_of, is_eligible}
use Rattle.choice.specs.Choice.{selected}
use Rattle.choice.specs.Rank.{is_placed, Within}
use Rattle.choice.proofs.Choosing.{selected-injective}
use Rattle.choice.proofs.Ranks.{eligible-exact}
use Rattle.numbers.specs.declared.Answer.{Answer}
use Rattle.selector.specs.Clock.{free_run, holdover, locked, clock_state}
use Rattle.events.specs.Given.{Given, as_recorded}
use Rattle.events.specs.Step.{recorded_argument}
use Rattle.events.specs.Sequence.{Sequence}
use Rattle.events.specs.Past.{Past, candidate_by, decided_by, early_by, late_by, with_tick, with_event, past_of, recorded, made_in}
use Rattle.events.specs.Told.{shown, candidate_selected}
use Rattle.events.specs.Demand3.{StandsForced}
use Rattle.events.specs.Usable.{SelectedPasses, UsableFrom, SomethingUsable, NothingUsable, clock_state_after, LockedExactly, NeverUsable}
use Rattle.events.proofs.Refused.{InRow, early_refusal-rows, argument_in_row}
use Rattle.events.proofs.Agrees.{recorded-profile}
use Rattle.events.proofs.Stated.{passed_at_passes, passed_at_only}
use Rattle.events.proofs.Happened.{happened}
use Rattle.events.proofs.Demand2.{demand_2_answers}
use Rattle.events.proofs.Demand3.{demand_3}

-- ---- what is computed is what is stated

module _ (provplace floor : ℕ) (passed : Quality) (mode : Bool) where
  -- an input that is neither off nor locked is eligible exactly if its passed quality is usable
  unbarred : is_eligible (candidate_of provplace floor passed (record { 0 = 1 }) false mode) ≡
      (candidate_of provplace floor passed (record { 0 = 1 }) false mode).usable
  unfolding is_eligible candidate_of is_admitted
  unbarred = refl

module _ (past : Past) where
  abbrev history : History
  history = past.history

  abbrev provplace : ℕ
  provplace = prov_place_of (profile_of history)

  abbrev candidate : Candidate
  candidate = candidate_selected past

  -- the selected input as a choice sees it, by the passed quality that document 01 states
  selected-stated : (number : ℕ) (passed : Quality) → SelectedPasses past number passed
      → candidate ≡
      candidate_of provplace (floor_of number history) passed (record { 0 = priority_of number history })
      (is_locked_out number history)
      (mode_on history)
  unfolding candidate_by
  selected-stated number passed here =
      ap (shown past) here.is_selected ∙
      ap
      (λ (passes : Quality). candidate_of provplace (floor_of number history) passes
      (record { 0 = priority_of number history })
      (is_locked_out number history)
      (mode_on history))
      (sym (passed_at_only history (time_of history) number passed here.passes))

  -- usable depends on neither priority nor lockout
  usable-stated : (number : ℕ) (passed : Quality) → SelectedPasses past number passed
      → candidate.usable ≡
      is_eligible (candidate_of provplace (floor_of number history) passed (record { 0 = 1 }) false (mode_on history))
  unfolding candidate_of
  usable-stated number passed here =
      ap (λ (seen : Candidate). seen.usable) (selected-stated number passed here) ∙
      sym (unbarred provplace (floor_of number history) passed (mode_on history))

  -- what is told of it with mode on is its passed quality
  pub quality-stated : (number : ℕ) (passed : Quality) → SelectedPasses past number passed → mode_on history ≡ true
      → candidate.quality ≡ passed
  unfolding candidate_of ranked_quality
  quality-stated number passed here on =
      ap (λ (seen : Candidate). seen.quality) (selected-stated number passed here) ∙ rw on

  -- what is usable is selected
  pub some-selected : candidate.usable ≡ true
      → (number : ℕ) × SelectedPasses past number (passed_at number history (time_of history))
  some-selected usable = go (decided_by past.made).selection refl usable
    where
      go : (selection : Option InputNumber) → (decided_by past.made).selection ≡ selection → (shown past selection).usable ≡ true
          → (number : ℕ) × SelectedPasses past number (passed_at number history (time_of history))
      go None e none = absurd (true≢false (sym none))
      go (Some number) e here = (
        number.0,
        record { is_selected = e; passes = passed_at_passes history (time_of history) number.0 },
      )

  usable-from : (number : ℕ) (passed : Quality) → SelectedPasses past number passed
      → (candidate.usable ≡ true) ↔ UsableFrom history number passed
  usable-from number passed here = (to, from)
    where
      seen : Candidate
      seen = candidate_of provplace (floor_of number history) passed (record { 0 = 1 }) false (mode_on history)

      exact : (is_eligible seen ≡ true) ↔
          Seen.EligibleCandidate provplace (floor_of number history) passed (record { 0 = 1 }) false (mode_on history)
      exact = eligible-exact provplace (floor_of number history) passed (record { 0 = 1 }) false (mode_on history)

      to : candidate.usable ≡ true → UsableFrom history number passed
      to usable =
          let eligible = exact.0 (sym (usable-stated number passed here) ∙ usable) in
          record {
            not_failed = λ e. eligible.not_failed (ap (λ (told : Quality). told.0) e);
            within = eligible.within;
          }

      from : UsableFrom history number passed → candidate.usable ≡ true
      from usable =
          usable-stated number passed here ∙
          exact.1
          (record {
            not_off = λ e. omega arith;
            not_locked = refl;
            not_failed = λ e. usable.not_failed (λ j. record { 0 = e j });
            within = usable.within;
          })

  -- "an input is selected and its passed quality is usable"
  pub something_usable : (candidate.usable ≡ true) ↔ SomethingUsable past
  something_usable = (
    λ usable.
        let some = some-selected usable in
        record {
          number = some.0;
          passed = passed_at some.0 history (time_of history);
          is_selected = some.1;
          usable = (usable-from some.0 _ some.1).0 usable;
        },
    λ some. (usable-from some.number some.passed some.is_selected).1 some.usable,
  )

  -- "nothing usable is selected"
  pub nothing-usable : (candidate.usable ≡ false) ↔ NothingUsable past
  nothing-usable = (
    λ none some. true≢false (sym (something_usable.1 some) ∙ none),
    λ nothing.
        by_bool candidate.usable (λ usable. absurd (nothing (something_usable.0 usable))) (λ none. none),
  )

-- ---- the clock state

module _ (usable waslocked : Bool) where
  state-usable : usable ≡ true → clock_state usable waslocked ≡ locked
  unfolding clock_state
  state-usable u = rw u

  state-holds : usable ≡ false → waslocked ≡ true → clock_state usable waslocked ≡ holdover
  unfolding clock_state
  state-holds u h = rw (u, h)

  state-free : usable ≡ false → waslocked ≡ false → clock_state usable waslocked ≡ free_run
  unfolding clock_state
  state-free u h = rw (u, h)

state-locked : (usable waslocked : Bool) → clock_state usable waslocked ≡ locked → usable ≡ true
unfolding clock_state
state-locked true waslocked e = refl
state-locked false true e = absurd (omega (arith, e))
state-locked false false e = absurd (omega (arith, e))

module _ (sequence : Sequence) where
  abbrev past : Past
  past = past_of sequence

  state-by : clock_state_after sequence ≡ clock_state (candidate_selected past).usable (decided_by (made_in sequence)).waslocked
  state-by = ap (λ (answer : Answer). answer.clockstate) ((demand_2_answers sequence).answer accepted)

  -- a forced switch that stands selects its input
  forced_selects : (on : ℕ) → StandsForced on (made_in sequence) → (decided_by (made_in sequence)).selection ≡ selected on
  forced_selects on stands =
      sym (happened sequence).selection ∙
      (demand_3 sequence).state.by_forced on (((demand_3 sequence).state.forced on).1 stands)

  -- L9: the clock is locked exactly if an input is selected whose passed quality is usable
  pub locked-exactly : LockedExactly sequence
  locked-exactly =
      record {
        locks = (
          λ e. (something_usable past).0 (state-locked _ _ (sym state-by ∙ e)),
          λ some. state-by ∙ state-usable _ _ ((something_usable past).1 some),
        );
        holds = λ nothing ever.
            state-by ∙
            state-holds _ _ ((nothing-usable past).1 nothing) ((happened sequence).was_locked_right.any ever.0 ever.1);
        free = λ nothing never.
            state-by ∙
            state-free _ _ ((nothing-usable past).1 nothing)
            (by_bool (decided_by (made_in sequence)).waslocked
            (λ h. absurd (never ((happened sequence).was_locked_right.some h)))
            (λ h. h));
        below = λ on stands mode outside some.
            let same : some.number ≡ on =
            selected-injective some.number on (sym some.is_selected.is_selected ∙ forced_selects on stands)
            in
            outside some.passed
            (subst
            (λ (number : ℕ). PassedAt number (recorded sequence) (time_of (recorded sequence)) some.passed)
            same
            some.is_selected.passes)
            (subst
            (λ (number : ℕ). Within (prov_place_of (profile_of (recorded sequence))) (floor_of number (recorded sequence))
            some.passed)
            same
            (some.usable.within mode));
      }

-- ---- settings stay in their ranges

module _ (kind number fresh : ℕ) (notTick : eqb kind_tick kind ≡ false) (notFrame : eqb kind kind_frame ≡ false) where
  -- a setting as the recorded events have it is fresh, or in its row
  abbrev Ranged : History → Type 0
  Ranged history =
      (last_argument number kind fresh history ≡ fresh) ⊎
      InRow (known_row_of (limits_of (profile_of history)) kind) (last_argument number kind fresh history)

  tick_off : (time : ℕ) → is_on number kind (tick_event time) ≡ false
  unfolding is_on
  tick_off time = by_bool (eqb 0 number) (λ e. rw (e, notTick)) (λ e. rw e)

  ticked_ranged : (time : ℕ) (history : History) → Ranged history → Ranged (tick_event time following history)
  unfolding last_argument
  ticked_ranged time history ranged = rw (tick_off time) ranged

  module _ (past : Past) (given : Given) (none : early_by past given ≡ accepted) where
    -- an accepted event of that kind has an argument in its row
    own_ranged : given.event.kind ≡ kind
        → InRow (known_row_of (limits_of (profile_of past.history)) kind)
        (recorded_argument given.event.kind given.event.argument (read_code given.frame))
    unfolding recorded_argument
    own_ranged same =
        let early = early_refusal-rows (limits_of (profile_of past.history)) (time_of past.history)
        (input_kind given.event.input past.history) given.event given.frame ∙ none
        in
        let within = argument_in_row (limits_of (profile_of past.history)) (time_of past.history)
        (input_kind given.event.input past.history) given.event (read_code given.frame) early
        in
        rw (same, notFrame)
        (subst (λ (known : ℕ). InRow (known_row_of (limits_of (profile_of past.history)) known) given.event.argument)
        same
        within)

    taken_ranged : Ranged past.history
        → Ranged (as_recorded (profile_of past.history) given following past.history)
    unfolding last_argument is_on
    taken_ranged ranged =
        by_bool (eqb given.event.input number && eqb given.event.kind kind)
        (λ on. rw on
        (inr
        (own_ranged
        (eqb-true _ _ (both-second (eqb given.event.input number) (eqb given.event.kind kind) on)))))
        (λ off. rw off ranged)

  setting_ranged : (sequence : Sequence) → Ranged (recorded sequence)
  unfolding past_of last_argument
  setting_ranged (started profile) = inl refl
  setting_ranged (given following earlier) =
      go (not (eqb (early_by (past_of earlier) given) accepted)) (not (eqb (late_by (past_of earlier) given) accepted)) refl
      (setting_ranged earlier)
    where
      go : (early late : Bool) → not (eqb (early_by (past_of earlier) given) accepted) ≡ early → Ranged (recorded earlier)
          → Ranged
          (cond early (past_of earlier)
          (cond late (with_tick (past_of earlier) given.event.time)
          (with_event (past_of earlier) (as_recorded (profile_of (recorded earlier)) given)))).history
      go true late e ranged = ranged
      go false true e ranged = ticked_ranged given.event.time (recorded earlier) ranged
      go false false e ranged = taken_ranged (past_of earlier) given (eqb-true _ _ (not-false _ e)) ranged

pub floor_last : (profile : Profile) → (limits_of profile).floor ≤ last_prov_place
unfolding limits_of
floor_last P.OptionOne = omega arith
floor_last (P.OptionTwo provplace marks) = omega arith

-- a fresh floor is in the range
own_ranged_floor : (profile : Profile)
    → (1 ≤ (limits_of profile).freerunning.0) × ((limits_of profile).freerunning.0 ≤ (limits_of profile).floor)
unfolding limits_of
own_ranged_floor P.OptionOne = (omega arith, omega arith)
own_ranged_floor (P.OptionTwo provplace marks) = (omega arith, omega arith)

floor_ranged : (profile : Profile) (set : ℕ) → (set ≡ 0) ⊎ InRow (known_row_of (limits_of profile) kind_floor) set
    → (1 ≤ floor_in (limits_of profile).freerunning set) × (floor_in (limits_of profile).freerunning set ≤ (limits_of profile).floor)
unfolding floor_in known_row_of
floor_ranged profile set (inl e) = rw e (own_ranged_floor profile)
floor_ranged profile set (inr h) = rw (ne_eqb set 0 (λ e. omega (arith, e, h.0))) h

fixed_ranged : (profile : Profile) (fixed : ℕ)
    → (fixed ≡ 0) ⊎ InRow (known_row_of (limits_of profile) kind_fixed_quality) fixed
    → fixed ≤ (limits_of profile).fixed
unfolding known_row_of
fixed_ranged profile fixed (inl e) = omega (arith, e)
fixed_ranged profile fixed (inr h) = h.1

-- ---- what is never usable

module _ (provplace floor : ℕ) (passed : Quality) where
  above_floor : is_placed provplace passed ≡ false → floor < passed.0 → Within provplace floor passed → ⊥
  above_floor p h within = omega (arith, h, (within.numbered p).1)

  placed-last : is_placed provplace passed ≡ true → floor ≤ provplace → Within provplace floor passed → ⊥
  placed-last p h within = omega (arith, h, within.placed p)

prov-unplaced : (provplace : ℕ) → provplace ≡ 0 → is_placed provplace prov ≡ false
unfolding is_placed
prov-unplaced provplace e = rw e

prov-placed : (provplace : ℕ) → last_prov_place ≤ provplace → is_placed provplace prov ≡ true
unfolding is_placed
prov-placed provplace h = rw (ne_eqb provplace 0 (λ e. omega (arith, e, h)))

dus-unplaced : (provplace : ℕ) → is_placed provplace dus ≡ false
unfolding is_placed
dus-unplaced provplace = refl

invalid-unplaced : (provplace : ℕ) → is_placed provplace invalid ≡ false
unfolding is_placed
invalid-unplaced provplace = refl

module _ (sequence : Sequence) (number : ℕ) where
  abbrev own-profile : Profile
  own-profile = profile_of (recorded sequence)

  pub floor_range : (1 ≤ floor_of number (recorded sequence)) ×
      (floor_of number (recorded sequence) ≤ (limits_of own-profile).floor)
  floor_range = floor_ranged own-profile _ (setting_ranged kind_floor number 0 refl refl sequence)

  below_last : floor_of number (recorded sequence) ≤ last_prov_place
  below_last = omega (arith, floor_range.1, floor_last own-profile)

  -- L10: floors and fixed qualities stay in their ranges, and PROV that is not placed or placed at 8, DUS and invalid
  -- are not usable
  pub never-usable : NeverUsable sequence number
  never-usable =
      let same : profile_of (recorded sequence) ≡ profile_of sequence = recorded-profile sequence in
      record {
        floor_least = floor_range.0;
        floor_most =
            subst (λ (profile : Profile). floor_of number (recorded sequence) ≤ (limits_of profile).floor) same
            floor_range.1;
        fixed_most =
            subst (λ (profile : Profile). fixed_of number (recorded sequence) ≤ (limits_of profile).fixed) same
            (fixed_ranged own-profile _ (setting_ranged kind_fixed_quality number 0 refl refl sequence));
        unplaced = λ on none usable.
            above_floor _ _ prov (prov-unplaced _ (ap prov_place_of same ∙ none)) (omega (arith, below_last))
            (usable.within on);
        placed_last = λ on last usable.
            let high : last_prov_place ≤ prov_place_of own-profile =
            subst (λ (profile : Profile). last_prov_place ≤ prov_place_of profile) (sym same) last
            in
            placed-last _ _ prov (prov-placed _ high) (omega (arith, below_last, high)) (usable.within on);
        do_not_use = λ on usable.
            above_floor _ _ dus (dus-unplaced _) (omega (arith, below_last)) (usable.within on);
        not_valid = λ on usable.
            above_floor _ _ invalid (invalid-unplaced _) (omega (arith, below_last)) (usable.within on);
      }
