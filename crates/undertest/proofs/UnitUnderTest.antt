-- L14 of the station clock unit: each selector, after its own events, differs in that input alone. Cites `half-right`
-- and `demand_1_events`; of a second tick at one time `twice-state`; no step is opened. Assumes nothing.
use Prim.Native.Nat.{ℕ, ◌≤◌}
use mathlib.Core.Bool.{Bool, true, false, not, ◌&&◌, ◌||◌, cond}
use mathlib.Core.List.{◌∷◌}
use mathlib.Core.Logic.{⊎_elim, inr}
use mathlib.Core.Path.{◌≡◌, refl, sym, ◌∙◌, ap, subst}
use native.Mathlib.Omega.{arith}
use lib.Dec.{eqb, ltb}
use Rattle.numbers.specs.declared.profile.Limits.{Limits}
use Rattle.numbers.specs.declared.profile.Profile.{Profile}
use Rattle.numbers.specs.declared.quality.Quality.{Quality}
use Rattle.numbers.specs.From.{started, ◌following◌, profile_of}
use Rattle.numbers.specs.Kind.{kind_tick}
use Rattle.numbers.specs.Profile.{limits_of, prov_place_of}
use Rattle.numbers.specs.Quality.{quality}
use Rattle.numbers.specs.Recorded.{Recorded}
use Rattle.numbers.specs.Refusal.{accepted}
use Rattle.input.specs.Recorded.{History, is_on, last_argument, priority_of}
use Rattle.numbers.proofs.Truth.{by_bool}
use Rattle.choice.specs.Rank.{rank_of}
use Rattle.selector.specs.declared.Selector.{Selector}
use Rattle.selector.specs.Answer.{no_input, locked, answer_of}
use Rattle.events.specs.Given.{Given, Sequence, tick_at}
use Rattle.events.specs.Sequence.{state_after, number_after}
use Rattle.events.specs.Past.{Past, past_of, recorded}
use Rattle.events.proofs.Demand1.{demand_1_events}
use Rattle.events.proofs.Calm.{accepted_or_not, sequence-calm}
use Rattle.unit.specs.declared.Half.{Half}
use Rattle.unit.specs.declared.Half.TheVariants as H
use Rattle.unit.specs.Unit.{Addressed, UnitSequence, goes_to, is_for, time_in, tick_first, own_events, own_number, time_number}
use Rattle.unit.specs.Kept.{Unit, is_squelched, source_of}
use Rattle.unit.specs.Sequence.{Telling, unit_after, half_after, half_number, telling_of, tellings, station_output, outputs}
use Rattle.unit.specs.Claims.{addressed_to, SentAlike}
use Rattle.unit.proofs.Runs.{goes-alike}
use Rattle.unit.proofs.Halves.{with_own, number_with, own_following, own-profile, half-number-with, minimum-after, half-right}
use Rattle.unit.proofs.Ticks.{time_after, tick_number, twice-state, untimely_refused}
use Rattle.undertest.specs.UnderTest.{OnLine, OffThroughout}
use Rattle.undertest.specs.UnitUnderTest.{UnitsEqualButFor, begun, equal, paired, OffInBoth, switches, NothingShowsOfUnit}
use Rattle.undertest.proofs.Alike.{Off, AlikeButAt, alike_itself, alike-back, alike-on, alike-off}
use Rattle.undertest.proofs.Shown.{answer-alike, switch-alike, codes-alike, words-alike}
use Rattle.undertest.proofs.UnderTest.{off-now, equal-step, equal-number, pair_step}

-- ---- an input that is off is off in own events

-- a tick sets no priority
tick_recorded : (input : ℕ) (event : Recorded) (history : History) → event.kind ≡ kind_tick
    → priority_of input (event following history) ≡ priority_of input history
unfolding last_argument is_on
tick_recorded input event history tick =
    by_bool (eqb event.input input) (λ e. rw (e, tick)) (λ e. rw e)

tick_priority : (input time : ℕ) (own : Sequence)
    → priority_of input (recorded (tick_at time following own)) ≡ priority_of input (recorded own)
tick_priority input time own =
    ⊎_elim (λ none. at ((demand_1_events own (tick_at time)).taken none) ∙ tick_recorded input _ (recorded own) refl)
    (⊎_elim (λ low. at ((demand_1_events own (tick_at time)).before low).1)
    (λ high. at ((demand_1_events own (tick_at time)).after high).1 ∙ tick_recorded input _ (recorded own) refl))
    (demand_1_events own (tick_at time)).one
  where
    at : {past : Past} → past_of (tick_at time following own) ≡ past
        → priority_of input (recorded (tick_at time following own)) ≡ priority_of input past.history
    at e = ap (λ (past : Past). priority_of input past.history) e

-- the priority after the last event
off-last : (input : ℕ) (own : Sequence) → OffThroughout input own → priority_of input (recorded own) ≡ 0
unfolding past_of last_argument
off-last input (started profile) off = refl
off-last input (given following earlier) off = off.0

off_tick : (input time : ℕ) (own : Sequence) → OffThroughout input own
    → OffThroughout input (tick_at time following own)
off_tick input time own off = (tick_priority input time own ∙ off-last input own off, off)

off-with : (input : ℕ) (goes : Bool) (given : Given) (own : Sequence)
    → priority_of input (recorded (with_own goes given own)) ≡ 0
    → OffThroughout input own
    → OffThroughout input (with_own goes given own)
off-with input true given own now off = (now, off_tick input given.event.time own off)
off-with input false given own now off = (now, off)

own-off : (input : ℕ) (half : Half) (sequence : UnitSequence) → OffInBoth input sequence
    → OffThroughout input (own_events half sequence)
unfolding own_events
own-off input half (started profile) off = tt
own-off input half (addressed following earlier) off =
    off-with input (is_for half addressed earlier) addressed.given (own_events half earlier) (off.0 half)
    (own-off input half earlier off.1)

-- ---- each selector differs in that input alone

units_profile : (input : ℕ) (one other : UnitSequence) → UnitsEqualButFor input one other
    → profile_of one ≡ profile_of other
units_profile input _ _ (begun profile) = refl
units_profile input _ _ (equal given to toOther earlier otherEarlier alike before) =
    units_profile input earlier otherEarlier before
units_profile input _ _ (paired one other earlier otherEarlier pair before) =
    units_profile input earlier otherEarlier before

-- the same event goes to a selector in both or in neither
goes_same : (half : Half) (given : Given) (to toOther : Half) (one other : UnitSequence)
    → SentAlike (profile_of one) given to toOther
    → profile_of one ≡ profile_of other
    → is_for half (addressed_to to given) one ≡ is_for half (addressed_to toOther given) other
goes_same half given to toOther one other alike profile =
    goes-alike (profile_of one) given to toOther half alike ∙
    ap (λ (start : Profile). goes_to (limits_of start) given.event.kind toOther half) profile

-- what one selector is after its own events
abbrev own_state : Half → UnitSequence → Selector
own_state half sequence = state_after (own_events half sequence)

own-state : (half : Half) (addressed : Addressed) (earlier : UnitSequence)
    → own_state half (addressed following earlier) ≡
    state_after (with_own (is_for half addressed earlier) addressed.given (own_events half earlier))
own-state half addressed earlier = ap state_after (own_following half addressed earlier)

-- the same event of the unit, by the states before
module _ (input : ℕ) (own otherOwn : Sequence) (alike : AlikeButAt input (state_after own) (state_after otherOwn))
    (off : OffThroughout input own) where
  -- the tick of both
  ticks-alike : (time : ℕ)
      → AlikeButAt input (state_after (tick_at time following own)) (state_after (tick_at time following otherOwn))
  ticks-alike time =
      equal-step input own otherOwn alike (off-now input own off) (tick_at time)
      (off-now input (tick_at time following own) (off_tick input time own off))

  -- the same event, or its tick alone
  with-alike : (goes : Bool) (given : Given) → OffThroughout input (with_own goes given own)
      → AlikeButAt input (state_after (with_own goes given own)) (state_after (with_own goes given otherOwn))
  with-alike true given after =
      equal-step input _ _ (ticks-alike given.event.time) (off-now input _ after.1) given (off-now input _ after)
  with-alike false given after = ticks-alike given.event.time

-- one of a pair, which a selector accepts after its tick, leaves what that tick leaves, but for that input
module _ (input : ℕ) (limits : Limits) (given : Given) (own : Sequence) (onLine : OnLine limits input given)
    (profile : limits ≡ limits_of (profile_of own)) where
  abbrev ticked : Sequence
  ticked = tick_at given.event.time following own

  -- the time of an event that is accepted passes, so its tick is accepted again
  tick_accepted : number_after given ticked ≡ accepted → number_after (tick_at given.event.time) ticked ≡ accepted
  tick_accepted number =
      tick_number ticked given.event.time ∙
      accepted_or_not (time_number (time_after ticked) given.event.time)
      (λ passes. passes)
      (λ refused.
      let least : 1 ≤ number_after given ticked = (untimely_refused ticked given refused).least in
      absurd (omega arith))

  line-own : (goes : Bool) → Off input (state_after ticked).inputs → number_with goes given own ≡ accepted
      → AlikeButAt input (state_after ticked) (state_after (with_own goes given own))
  line-own true off number =
      subst (λ (before : Selector). AlikeButAt input before (state_after (given following ticked)))
      (twice-state own given.event.time)
      (pair_step input ticked ticked (alike_itself input (state_after ticked)) off (tick_at given.event.time) given
      (record {
        in_one = inr (inr refl);
        in_other = subst (λ (limits : Limits). OnLine limits input given) profile onLine;
        time = refl;
        number = tick_accepted number;
        other_number = number;
      }))
  line-own false off number = alike_itself input (state_after ticked)

-- the number of each of a pair, as one selector answers it after its own events
own-accepted : (half : Half) (addressed : Addressed) (earlier : UnitSequence)
    → own_number half addressed earlier ≡ accepted
    → number_with (is_for half addressed earlier) addressed.given (own_events half earlier) ≡ accepted
own-accepted half addressed earlier number =
    sym (half-number-with (quality 1) half addressed earlier) ∙
    (half-right (quality 1) half earlier).number addressed ∙
    number

line-half : (input : ℕ) (half : Half) (addressed : Addressed) (earlier : UnitSequence)
    → OnLine (limits_of (profile_of earlier)) input addressed.given
    → own_number half addressed earlier ≡ accepted
    → Off input (state_after (tick_first addressed (own_events half earlier))).inputs
    → AlikeButAt input (state_after (tick_first addressed (own_events half earlier)))
    (own_state half (addressed following earlier))
line-half input half addressed earlier onLine number off =
    subst (AlikeButAt input (state_after (tick_first addressed (own_events half earlier))))
    (sym (own-state half addressed earlier))
    (line-own input (limits_of (profile_of earlier)) addressed.given (own_events half earlier) onLine
    (ap limits_of (sym (own-profile half earlier)))
    (is_for half addressed earlier)
    off
    (own-accepted half addressed earlier number))

halves-alike : (input : ℕ) (half : Half) (one other : UnitSequence) → UnitsEqualButFor input one other
    → OffInBoth input one
    → AlikeButAt input (own_state half one) (own_state half other)
unfolding own_events
halves-alike input half _ _ (begun profile) off = alike_itself input (state_after (started profile))
halves-alike input half _ _ (equal given to toOther earlier otherEarlier alike before) off =
    subst
    (λ (goes : Bool). AlikeButAt input
    (state_after (with_own (is_for half (addressed_to to given) earlier) given (own_events half earlier)))
    (state_after (with_own goes given (own_events half otherEarlier))))
    (goes_same half given to toOther earlier otherEarlier alike (units_profile input earlier otherEarlier before))
    (with-alike input _ _ (halves-alike input half earlier otherEarlier before off.1)
    (own-off input half earlier off.1)
    (is_for half (addressed_to to given) earlier)
    given
    (own-off input half (addressed_to to given following earlier) off))
halves-alike input half _ _ (paired one other earlier otherEarlier pair before) off =
    let time = time_in one in
    let own = own_events half earlier in
    let ownOff = own-off input half earlier off.1 in
    let tickOff = off-now input (tick_at time following own) (off_tick input time own ownOff) in
    let both : AlikeButAt input (state_after (tick_first one own)) (state_after (tick_first other (own_events half otherEarlier))) =
    subst
    (λ (at : ℕ). AlikeButAt input (state_after (tick_first one own))
    (state_after (tick_at at following own_events half otherEarlier)))
    pair.time
    (ticks-alike input own (own_events half otherEarlier) (halves-alike input half earlier otherEarlier before off.1)
    ownOff
    time)
    in
    alike-on input _ (state_after (tick_first one own)) _
    (alike-back input _ _ (line-half input half one earlier pair.in_one (pair.number half) tickOff))
    (alike-on input _ (state_after (tick_first other (own_events half otherEarlier))) _ both
    (line-half input half other otherEarlier pair.in_other (pair.other_number half)
    (alike-off input _ _ both tickOff)))

-- ---- what each selector answers

module _ (input : ℕ) (own otherOwn : Sequence) (alike : AlikeButAt input (state_after own) (state_after otherOwn))
    (off : OffThroughout input own) where
  -- the number of the same event, or of its tick alone
  numbers-with : (goes : Bool) (given : Given) → number_with goes given own ≡ number_with goes given otherOwn
  numbers-with true given =
      let time = given.event.time in
      equal-number input _ _ (ticks-alike input own otherOwn alike off time)
      (off-now input _ (off_tick input time own off))
      given
  numbers-with false given = equal-number input own otherOwn alike (off-now input own off) (tick_at given.event.time)

  telling-equal : (number : ℕ) → telling_of number (state_after own) ≡ telling_of number (state_after otherOwn)
  telling-equal number = λ j.
      record {
        answer = answer-alike input _ _ alike (off-now input own off) (sequence-calm own) number j;
        codes = codes-alike input _ _ alike (off-now input own off) (sequence-calm own) j;
        words = words-alike input _ _ alike (off-now input own off) (sequence-calm own) j;
      }

module _ (minimum : Quality) (input : ℕ) (half : Half) where
  half-numbers : {one other : Addressed} {earlier otherEarlier : UnitSequence}
      → UnitsEqualButFor input (one following earlier) (other following otherEarlier)
      → OffInBoth input earlier
      → half_number minimum half one earlier ≡ half_number minimum half other otherEarlier
  half-numbers (equal given to toOther earlier otherEarlier alike before) off =
      half-number-with minimum half (addressed_to to given) earlier ∙
      numbers-with input _ _ (halves-alike input half earlier otherEarlier before off) (own-off input half earlier off)
      (is_for half (addressed_to to given) earlier)
      given ∙
      ap (λ (goes : Bool). number_with goes given (own_events half otherEarlier))
      (goes_same half given to toOther earlier otherEarlier alike (units_profile input earlier otherEarlier before)) ∙
      sym (half-number-with minimum half (addressed_to toOther given) otherEarlier)
  half-numbers (paired one other earlier otherEarlier pair before) off =
      (half-right minimum half earlier).number one ∙
      pair.number half ∙
      sym (pair.other_number half) ∙
      sym ((half-right minimum half otherEarlier).number other)

  -- after both
  module _ (one other : UnitSequence) (butFor : UnitsEqualButFor input one other) (off : OffInBoth input one) where
    half-telling : (number : ℕ)
        → telling_of number (half_after minimum half one) ≡ telling_of number (half_after minimum half other)
    half-telling number =
        ap (telling_of number) (half-right minimum half one).state ∙
        telling-equal input _ _ (halves-alike input half one other butFor off) (own-off input half one off) number ∙
        sym (ap (telling_of number) (half-right minimum half other).state)

    half-switch : (half_after minimum half one).switch ≡ (half_after minimum half other).switch
    half-switch =
        ap (λ (state : Selector). state.switch) (half-right minimum half one).state ∙
        switch-alike input _ _ (halves-alike input half one other butFor off)
        (off-now input (own_events half one) (own-off input half one off))
        (sequence-calm (own_events half one)) ∙
        sym (ap (λ (state : Selector). state.switch) (half-right minimum half other).state)

-- ---- what the station output sends

-- by the station selector's answer, profile and mode, and by the minimum
output-same : (unit other : Unit) → answer_of accepted unit.station ≡ answer_of accepted other.station
    → unit.station.profile ≡ other.station.profile
    → unit.station.mode ≡ other.station.mode
    → unit.minimum ≡ other.minimum
    → station_output unit ≡ station_output other
unfolding is_squelched source_of
output-same unit other answer profile mode minimum = λ j.
    record { squelched = squelched j; source = cond (squelched j) no_input (answer j).selected }
  where
    squelched : is_squelched unit ≡ is_squelched other
    squelched = λ j.
        not (eqb (answer j).clockstate locked) ||
        (mode j &&
        ltb (rank_of (prov_place_of (profile j)) (minimum j)).0
        (rank_of (prov_place_of (profile j)) (quality (answer j).clockquality)).0)

module _ (minimum : Quality) (input : ℕ) (one other : UnitSequence) (butFor : UnitsEqualButFor input one other)
    (off : OffInBoth input one) where
  -- the two station selectors differ in that input alone
  stations_alike : AlikeButAt input (state_after (own_events H.Station one)) (state_after (own_events H.Station other))
  stations_alike = halves-alike input H.Station one other butFor off

  -- what is the same of both is the same of the units' stations
  station-kept : {A : Type 0} (kept : Selector → A)
      → kept (state_after (own_events H.Station other)) ≡ kept (state_after (own_events H.Station one))
      → kept (unit_after minimum one).station ≡ kept (unit_after minimum other).station
  station-kept kept same =
      ap kept (half-right minimum H.Station one).state ∙
      sym same ∙
      sym (ap kept (half-right minimum H.Station other).state)

  output-equal : station_output (unit_after minimum one) ≡ station_output (unit_after minimum other)
  output-equal =
      output-same (unit_after minimum one) (unit_after minimum other)
      (ap (λ (telling : Telling). telling.answer) (half-telling minimum input H.Station one other butFor off accepted))
      (station-kept (λ (state : Selector). state.profile)
      (ap (λ (state : Selector). state.profile) stations_alike.same))
      (station-kept (λ (state : Selector). state.mode)
      (ap (λ (state : Selector). state.mode) stations_alike.same))
      (minimum-after minimum one ∙ sym (minimum-after minimum other))

-- ---- after every event

module _ (minimum : Quality) (input : ℕ) (half : Half) where
  -- the last event of each
  head-told : (one other : Addressed) (earlier otherEarlier : UnitSequence)
      → UnitsEqualButFor input (one following earlier) (other following otherEarlier)
      → OffInBoth input (one following earlier)
      → telling_of (half_number minimum half one earlier) (half_after minimum half (one following earlier)) ≡
      telling_of (half_number minimum half other otherEarlier) (half_after minimum half (other following otherEarlier))
  head-told one other earlier otherEarlier butFor off =
      half-telling minimum input half (one following earlier) (other following otherEarlier) butFor off
      (half_number minimum half one earlier) ∙
      ap (λ (number : ℕ). telling_of number (half_after minimum half (other following otherEarlier)))
      (half-numbers minimum input half butFor off.1)

  all_told_lem : (one other : UnitSequence) → UnitsEqualButFor input one other → OffInBoth input one
      → tellings minimum half one ≡ tellings minimum half other
  unfolding tellings
  all_told_lem _ _ (begun profile) off = refl
  all_told_lem _ _ (equal given to toOther earlier otherEarlier alike before) off = λ j.
      head-told (addressed_to to given) (addressed_to toOther given) earlier otherEarlier
      (equal given to toOther earlier otherEarlier alike before)
      off
      j ∷
      all_told_lem earlier otherEarlier before off.1 j
  all_told_lem _ _ (paired one other earlier otherEarlier pair before) off = λ j.
      head-told one other earlier otherEarlier (paired one other earlier otherEarlier pair before) off j ∷
      all_told_lem earlier otherEarlier before off.1 j

  all-switched : (one other : UnitSequence) → UnitsEqualButFor input one other → OffInBoth input one
      → switches minimum half one ≡ switches minimum half other
  unfolding switches
  all-switched _ _ (begun profile) off = refl
  all-switched _ _ (equal given to toOther earlier otherEarlier alike before) off = λ j.
      half-switch minimum input half (addressed_to to given following earlier)
      (addressed_to toOther given following otherEarlier)
      (equal given to toOther earlier otherEarlier alike before)
      off
      j ∷ all-switched earlier otherEarlier before off.1 j
  all-switched _ _ (paired one other earlier otherEarlier pair before) off = λ j.
      half-switch minimum input half (one following earlier) (other following otherEarlier)
      (paired one other earlier otherEarlier pair before)
      off
      j ∷ all-switched earlier otherEarlier before off.1 j

all-sent : (minimum : Quality) (input : ℕ) (one other : UnitSequence) → UnitsEqualButFor input one other
    → OffInBoth input one
    → outputs minimum one ≡ outputs minimum other
unfolding outputs
all-sent minimum input _ _ (begun profile) off = refl
all-sent minimum input _ _ (equal given to toOther earlier otherEarlier alike before) off = λ j.
    output-equal minimum input (addressed_to to given following earlier) (addressed_to toOther given following otherEarlier)
    (equal given to toOther earlier otherEarlier alike before)
    off
    j ∷ all-sent minimum input earlier otherEarlier before off.1 j
all-sent minimum input _ _ (paired one other earlier otherEarlier pair before) off = λ j.
    output-equal minimum input (one following earlier) (other following otherEarlier)
    (paired one other earlier otherEarlier pair before)
    off
    j ∷ all-sent minimum input earlier otherEarlier before off.1 j

-- L14, of the unit: "Then all answer lines, both selectors' switches and all sixteen outgoing codes are equal after
-- every event."
pub unit-line_under_test : (minimum : Quality) (input : ℕ) (one other : UnitSequence)
    → UnitsEqualButFor input one other → OffInBoth input one
    → NothingShowsOfUnit minimum one other
unit-line_under_test minimum input one other butFor off =
    record {
      told = λ half. all_told_lem minimum input half one other butFor off;
      switched = λ half. all-switched minimum input half one other butFor off;
      sent = all-sent minimum input one other butFor off;
    }
