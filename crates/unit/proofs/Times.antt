-- The unit's one time, and what refusals leave. Cites `happened` and `demand_1_events`. Assumes nothing.
use Prim.Native.Nat.{ℕ, ◌≤◌}
use mathlib.Core.Bool.{Bool, true, false, cond}
use mathlib.Core.Logic.{⊎_elim, ◌≢◌}
use mathlib.Core.Path.{◌≡◌, refl, sym, ◌∙◌, ap, subst}
use native.Mathlib.Omega.{arith}
use lib.Dec.{eqb}
use borrow.Author.Tests.{eq-eqb, ne_eqb}
use Rattle.numbers.specs.declared.quality.Quality.{Quality}
use Rattle.numbers.specs.From.{started, ◌following◌, profile_of}
use Rattle.numbers.specs.Kind.{is_known}
use Rattle.numbers.specs.Profile.{limits_of}
use Rattle.numbers.specs.Refusal.{accepted, kind_unknown, time_too_large, time_before_state}
use Rattle.input.specs.Recorded.{time_of}
use Rattle.selector.specs.declared.Selector.{Selector}
use Rattle.events.specs.Given.{Given, Sequence, tick_at}
use Rattle.events.specs.Sequence.{state_after}
use Rattle.events.specs.Past.{Past, past_of, recorded}
use Rattle.events.specs.Demand1.{OneToThirteen, FourteenToSeventeen}
use Rattle.events.proofs.Calm.{accepted_or_not}
use Rattle.events.proofs.Happened.{happened}
use Rattle.events.proofs.Demand1.{demand_1_events}
use Rattle.unit.specs.declared.Half.{Half}
use Rattle.unit.specs.declared.Half.TheVariants as H
use Rattle.unit.specs.Unit.{Addressed, UnitSequence, is_for, time_in, tick_first, own_events, time_number, unit_time}
use Rattle.unit.specs.Sequence.{half_of, unit_after, half_number}
use Rattle.unit.specs.Claims.{OneTime, RefusalsLeave}
use Rattle.unit.specs.Kept.{Unit}
use Rattle.unit.proofs.Ticks.{time_number-again, time_after, tick_number, tick_passes, tick_keeps-past, tick_keeps, tick_again, untimely_number, untimely_refused, untimely_keeps-past, untimely_keeps, timely_number}
use Rattle.unit.proofs.Halves.{with_own, number_with, own_following, own-profile, half-after, half-number-with, minimum-after}

-- ---- an event and its tick

-- an event leaves the time that its tick leaves
module _ (own : Sequence) (given : Given) where
  abbrev ticked : Sequence
  ticked = tick_at given.event.time following own

  abbrev passing : ℕ
  passing = time_number (time_after own) given.event.time

  -- where the time does not pass, neither the tick nor the event does anything
  pub refused-again : passing ≢ accepted → time_number (time_after ticked) given.event.time ≢ accepted
  refused-again refused e =
      refused
      (ap (λ (past : Past). time_number (time_of past.history) given.event.time)
      (sym (tick_keeps-past own given.event.time refused)) ∙
      e)

  -- where it passes, the event's time is the state's
  pub passed-again : passing ≡ accepted → time_number (time_after ticked) given.event.time ≡ accepted
  passed-again passes =
      ap (λ (time : ℕ). time_number time given.event.time) (tick_passes own given.event.time passes) ∙
      time_number-again (time_after own) given.event.time passes

  -- whatever is answered to the event
  event-passes : passing ≡ accepted → time_after (given following ticked) ≡ given.event.time
  event-passes passes =
      ⊎_elim (λ none. at ((demand_1_events ticked given).taken none))
      (⊎_elim (λ low. at ((demand_1_events ticked given).before low).1 ∙ tick_passes own given.event.time passes)
      (λ high. at ((demand_1_events ticked given).after high).1))
      (demand_1_events ticked given).one
    where
      at : {past : Past} → past_of (given following ticked) ≡ past
          → time_after (given following ticked) ≡ time_of past.history
      at e = ap (λ (past : Past). time_of past.history) e

  event-refused : passing ≢ accepted → past_of (given following ticked) ≡ past_of own
  event-refused refused =
      untimely_keeps-past ticked given (refused-again refused) ∙ tick_keeps-past own given.event.time refused

  with-passes : (goes : Bool) → passing ≡ accepted → time_after (with_own goes given own) ≡ given.event.time
  with-passes true passes = event-passes passes
  with-passes false passes = tick_passes own given.event.time passes

  with-refused : (goes : Bool) → passing ≢ accepted → past_of (with_own goes given own) ≡ past_of own
  with-refused true refused = event-refused refused
  with-refused false refused = tick_keeps-past own given.event.time refused

  pub with-keeps : (goes : Bool) → passing ≢ accepted → state_after (with_own goes given own) ≡ state_after own
  with-keeps true refused =
      untimely_keeps ticked given (refused-again refused) ∙ tick_keeps own given.event.time refused
  with-keeps false refused = tick_keeps own given.event.time refused

  pub with-time : (goes : Bool)
      → time_after (with_own goes given own) ≡ cond (eqb passing accepted) given.event.time (time_after own)
  with-time goes =
      accepted_or_not passing
      (λ passes. rw (eq-eqb passing accepted passes) (with-passes goes passes))
      (λ refused.
      rw (ne_eqb passing accepted refused)
      (ap (λ (past : Past). time_of past.history) (with-refused goes refused)))

-- either selector's time is the unit's
pub own-time : (half : Half) (sequence : UnitSequence) → time_after (own_events half sequence) ≡ unit_time sequence
unfolding own_events unit_time past_of
own-time half (started profile) = refl
own-time half (addressed following earlier) =
    with-time (own_events half earlier) addressed.given (is_for half addressed earlier) ∙
    ap (λ (unit : ℕ). cond (eqb (time_number unit (time_in addressed)) accepted) (time_in addressed) unit)
    (own-time half earlier)

module _ (half : Half) (addressed : Addressed) (earlier : UnitSequence) where
  abbrev own : Sequence
  own = own_events half earlier

  abbrev first : Sequence
  first = tick_first addressed own

  -- the number of the time against the unit's, and against the selector's own
  abbrev timed : ℕ
  timed = time_number (unit_time earlier) (time_in addressed)

  own-timed : time_number (time_after own) (time_in addressed) ≡ timed
  own-timed = ap (λ (unit : ℕ). time_number unit (time_in addressed)) (own-time half earlier)

  number-other : number_with false addressed.given own ≡ timed
  number-other = tick_number own (time_in addressed) ∙ own-timed

  -- 2 where the kind is unknown, otherwise 3 or 4
  number-refused : timed ≢ accepted
      → number_with true addressed.given own ≡
      cond (is_known (limits_of (profile_of earlier)) addressed.given.event.kind) timed kind_unknown
  number-refused refused =
      let untimely : time_number (time_after own) (time_in addressed) ≢ accepted = λ e. refused (sym own-timed ∙ e) in
      let profile : profile_of (recorded first) ≡ profile_of earlier =
      (happened first).recorded_profile ∙ own-profile half earlier
      in
      let same : time_number (time_after first) (time_in addressed) ≡ timed =
      ap (λ (past : Past). time_number (time_of past.history) (time_in addressed))
      (tick_keeps-past own (time_in addressed) untimely) ∙
      own-timed
      in
      untimely_number first addressed.given (refused-again own addressed.given untimely) ∙
      (λ j. cond (is_known (limits_of (profile j)) addressed.given.event.kind) (same j) kind_unknown)

  -- neither 3 nor 4 where it passes
  number_passed : (goes : Bool) (number : ℕ) → time_too_large ≤ number → number ≤ time_before_state → timed ≡ accepted
      → number_with goes addressed.given own ≢ number
  number_passed true number least most passes e =
      timely_number first addressed.given (passed-again own addressed.given (own-timed ∙ passes)) number least
      most
      e
  number_passed false number least most passes e = omega (arith, number-other ∙ passes)

  -- what the tick leaves is left by any refusal with 1 to 13
  left-ticked : (goes : Bool) → OneToThirteen (number_with goes addressed.given own)
      → state_after (with_own goes addressed.given own) ≡ state_after first
  left-ticked true low = ((demand_1_events first addressed.given).before low).0
  left-ticked false low = refl

  -- and by one with 14 to 17, whose own tick is a second one
  left-late : (goes : Bool) → FourteenToSeventeen (number_with goes addressed.given own)
      → state_after (with_own goes addressed.given own) ≡ state_after first
  left-late true high =
      accepted_or_not timed
      (λ passes.
      ((demand_1_events first addressed.given).after high).0 ∙ tick_again own (time_in addressed) (own-timed ∙ passes))
      (λ refused.
      let untimely : time_number (time_after own) (time_in addressed) ≢ accepted = λ e. refused (sym own-timed ∙ e) in
      let low = untimely_refused first addressed.given (refused-again own addressed.given untimely) in
      absurd (omega (arith, high.least, low.most)))
  left-late false high = refl

-- ---- the theorems

module _ (minimum : Quality) (half : Half) (addressed : Addressed) (earlier : UnitSequence) where
  abbrev answered : half_number minimum half addressed earlier ≡
      number_with (is_for half addressed earlier) addressed.given (own_events half earlier)
  answered = half-number-with minimum half addressed earlier

  -- THE UNIT KEEPS ONE TIME, and 3 and 4 are given against it.
  pub one_time_lem : OneTime minimum half addressed earlier
  one_time_lem =
      record {
        time =
            ap (λ (state : Selector). state.time) (half-after minimum earlier half) ∙
            (happened (own_events half earlier)).time ∙
            own-time half earlier;
        other = λ not.
            answered ∙
            ap (λ (goes : Bool). number_with goes addressed.given (own_events half earlier)) not ∙
            number-other half addressed earlier;
        refused = λ refused goes.
            answered ∙
            ap (λ (sent : Bool). number_with sent addressed.given (own_events half earlier)) goes ∙
            number-refused half addressed earlier refused;
        passed = λ passes. (
          λ e.
              number_passed half addressed earlier (is_for half addressed earlier) time_too_large (omega arith)
              (omega arith)
              passes
              (sym answered ∙ e),
          λ e.
              number_passed half addressed earlier (is_for half addressed earlier) time_before_state (omega arith)
              (omega arith)
              passes
              (sym answered ∙ e),
        );
      }

-- a unit is its halves and its minimum
unit-same : (unit other : Unit) → ((half : Half) → half_of half unit ≡ half_of half other)
    → unit.minimum ≡ other.minimum
    → unit ≡ other
unit-same unit other halves minimum = λ j.
    record { equipment = halves H.Equipment j; station = halves H.Station j; minimum = minimum j }

module _ (minimum : Quality) (addressed : Addressed) (earlier : UnitSequence) where
  -- a time that does not pass leaves the unit
  unit_kept : time_number (unit_time earlier) (time_in addressed) ≢ accepted
      → unit_after minimum (addressed following earlier) ≡ unit_after minimum earlier
  unit_kept refused =
      unit-same _ _
      (λ half.
      half-after minimum (addressed following earlier) half ∙
      ap state_after (own_following half addressed earlier) ∙
      with-keeps (own_events half earlier) addressed.given (is_for half addressed earlier)
      (λ e. refused (sym (own-timed half addressed earlier) ∙ e)) ∙
      sym (half-after minimum earlier half))
      (minimum-after minimum (addressed following earlier) ∙ sym (minimum-after minimum earlier))

-- REFUSALS 2 AND 5 TO 13 LEAVE WHAT THE TICK LEAVES, 3 and 4 the unit.
pub refusals_leave_lem : (minimum : Quality) (half : Half) (addressed : Addressed) (earlier : UnitSequence)
    → RefusalsLeave minimum half addressed earlier
refusals_leave_lem minimum half addressed earlier =
    let time = one_time_lem minimum half addressed earlier in
    let kept = unit_kept minimum addressed earlier in
    record {
      ticked = λ low.
          half-after minimum (addressed following earlier) half ∙
          ap state_after (own_following half addressed earlier) ∙
          left-ticked half addressed earlier (is_for half addressed earlier)
          (subst OneToThirteen (answered minimum half addressed earlier) low);
      late = λ high.
          half-after minimum (addressed following earlier) half ∙
          ap state_after (own_following half addressed earlier) ∙
          left-late half addressed earlier (is_for half addressed earlier)
          (subst FourteenToSeventeen (answered minimum half addressed earlier) high);
      kept = kept;
      three = λ three. kept (λ passes. (time.passed passes).0 three);
      four = λ four. kept (λ passes. (time.passed passes).1 four);
    }
