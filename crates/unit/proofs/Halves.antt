-- Each half of the unit is a selector after its own events. Cites `happened`, `demand_1_events`, `demand_2_answers`,
-- `demand_3`, `demand_4` and `manual-eligible`. Assumes nothing.
use Prim.Native.Nat.{ℕ}
use mathlib.Core.Bool.{Bool, true, false, cond}
use mathlib.Core.List.{List, ◌∷◌}
use mathlib.Core.Path.{◌≡◌, refl, ◌∙◌, ap}
use Rattle.numbers.specs.declared.Event.{Event}
use Rattle.numbers.specs.declared.quality.Quality.{Quality}
use Rattle.numbers.specs.From.{started, ◌following◌, profile_of}
use Rattle.numbers.specs.Profile.{limits_of}
use Rattle.frame.specs.Read.{read_code}
use Rattle.selector.specs.declared.Selector.{Selector}
use Rattle.events.specs.Given.{Given, Sequence, tick_at}
use Rattle.events.specs.Step.{Stepped, step}
use Rattle.events.specs.Sequence.{state_after, number_after}
use Rattle.events.specs.Past.{number_by, past_of}
use Rattle.events.proofs.Happened.{happened}
use Rattle.events.proofs.Demand1.{demand_1_events}
use Rattle.events.proofs.Demand2.{demand_2_answers}
use Rattle.events.proofs.Demand3.{demand_3, manual-eligible}
use Rattle.events.proofs.Demand4.{demand_4}
use Rattle.unit.specs.declared.Half.{Half}
use Rattle.unit.specs.declared.Half.TheVariants as H
use Rattle.unit.specs.Unit.{Addressed, UnitSequence, goes_to, is_for, own_events, own_number, telling_by, own_tellings}
use Rattle.unit.specs.Kept.{Unit, half_step, step_unit_read, step_unit}
use Rattle.unit.specs.Sequence.{half_of, number_of_half, unit_after, half_after, half_number, telling_of, tellings}
use Rattle.unit.specs.Claims.{HalfRight}

-- ---- own events

-- what one selector has had with an event of the unit: its tick, and the event where it goes there
abbrev pub with_own : Bool → Given → Sequence → Sequence
with_own goes given own =
    cond goes (given following tick_at given.event.time following own) (tick_at given.event.time following own)

-- and the number that it answers
abbrev pub number_with : Bool → Given → Sequence → ℕ
number_with goes given own =
    cond goes (number_after given (tick_at given.event.time following own))
    (number_after (tick_at given.event.time) own)

pub own_following : (half : Half) (addressed : Addressed) (earlier : UnitSequence)
    → own_events half (addressed following earlier) ≡
    with_own (is_for half addressed earlier) addressed.given (own_events half earlier)
unfolding own_events
own_following half addressed earlier = refl

-- the profile is the unit's
with-profile : (goes : Bool) (given : Given) (own : Sequence) → profile_of (with_own goes given own) ≡ profile_of own
with-profile true given own = refl
with-profile false given own = refl

pub own-profile : (half : Half) (sequence : UnitSequence) → profile_of (own_events half sequence) ≡ profile_of sequence
unfolding own_events
own-profile half (started profile) = refl
own-profile half (addressed following earlier) =
    with-profile (is_for half addressed earlier) addressed.given (own_events half earlier) ∙ own-profile half earlier

-- ---- the code's step is of own events

-- the one definition of the selector's step that is opened: an event with a lent frame is the event with the frame read
module _ (own : Sequence) (given : Given) where
  half-state : (goes : Bool) → (half_step (state_after own) goes given.event (read_code given.frame)).state ≡
      state_after (with_own goes given own)
  unfolding half_step state_after step
  half-state true = refl
  half-state false = refl

  half-number : (goes : Bool) → (half_step (state_after own) goes given.event (read_code given.frame)).number ≡
      number_with goes given own
  unfolding half_step state_after number_after step
  half-number true = refl
  half-number false = refl

module _ (unit : Unit) (to : Half) (event : Event) (frame : List ℕ) where
  -- the step of a half of the unit
  abbrev step_half : Half → Stepped
  step_half half =
      half_step (half_of half unit) (goes_to (limits_of unit.equipment.profile) event.kind to half) event
      (read_code frame)

  stepped-state : (half : Half) → half_of half (step_unit unit to event frame).unit ≡ (step_half half).state
  unfolding step_unit step_unit_read
  stepped-state H.Equipment = refl
  stepped-state H.Station = refl

  stepped-number : (half : Half) → number_of_half half (step_unit unit to event frame) ≡ (step_half half).number
  unfolding step_unit step_unit_read
  stepped-number H.Equipment = refl
  stepped-number H.Station = refl

-- what a half of the unit is after an event, by what each half was before it
module _ (minimum : Quality) (addressed : Addressed) (earlier : UnitSequence)
    (before : (half : Half) → half_after minimum half earlier ≡ state_after (own_events half earlier)) where
  profile-before : (unit_after minimum earlier).equipment.profile ≡ profile_of earlier
  profile-before =
      ap (λ (state : Selector). state.profile) (before H.Equipment) ∙
      (happened (own_events H.Equipment earlier)).profile ∙
      own-profile H.Equipment earlier

  -- the step of a half, of its own events
  step-own : (half : Half)
      → step_half (unit_after minimum earlier) addressed.to addressed.given.event addressed.given.frame half ≡
      half_step (state_after (own_events half earlier)) (is_for half addressed earlier) addressed.given.event
      (read_code addressed.given.frame)
  step-own half = λ j.
      half_step (before half j)
      (goes_to (limits_of (profile-before j)) addressed.given.event.kind addressed.to half)
      addressed.given.event
      (read_code addressed.given.frame)

  after-state : (half : Half)
      → half_after minimum half (addressed following earlier) ≡ state_after (own_events half (addressed following earlier))
  unfolding unit_after own_events
  after-state half =
      stepped-state (unit_after minimum earlier) addressed.to addressed.given.event addressed.given.frame
      half ∙
      ap (λ (stepped : Stepped). stepped.state) (step-own half) ∙
      half-state (own_events half earlier) addressed.given (is_for half addressed earlier)

  after-number : (half : Half)
      → half_number minimum half addressed earlier ≡
      number_with (is_for half addressed earlier) addressed.given (own_events half earlier)
  unfolding half_number
  after-number half =
      stepped-number (unit_after minimum earlier) addressed.to addressed.given.event addressed.given.frame
      half ∙
      ap (λ (stepped : Stepped). stepped.number) (step-own half) ∙
      half-number (own_events half earlier) addressed.given (is_for half addressed earlier)

module _ (minimum : Quality) where
  pub half-after : (sequence : UnitSequence) (half : Half)
      → half_after minimum half sequence ≡ state_after (own_events half sequence)
  unfolding unit_after state_after own_events
  half-after (started profile) H.Equipment = refl
  half-after (started profile) H.Station = refl
  half-after (addressed following earlier) half = after-state minimum addressed earlier (half-after earlier) half

  pub half-number-with : (half : Half) (addressed : Addressed) (earlier : UnitSequence)
      → half_number minimum half addressed earlier ≡
      number_with (is_for half addressed earlier) addressed.given (own_events half earlier)
  half-number-with half addressed earlier = after-number minimum addressed earlier (half-after earlier) half

  -- the minimum is as it was set
  pub minimum-after : (sequence : UnitSequence) → (unit_after minimum sequence).minimum ≡ minimum
  unfolding unit_after step_unit step_unit_read
  minimum-after (started profile) = refl
  minimum-after (addressed following earlier) = minimum-after earlier

-- by what has happened
number-with : (goes : Bool) (given : Given) (own : Sequence)
    → number_with goes given own ≡
    cond goes (number_by (past_of (tick_at given.event.time following own)) given)
    (number_by (past_of own) (tick_at given.event.time))
number-with true given own = (happened (tick_at given.event.time following own)).number given
number-with false given own = (happened own).number (tick_at given.event.time)

pub half-number-own : (minimum : Quality) (half : Half) (addressed : Addressed) (earlier : UnitSequence)
    → half_number minimum half addressed earlier ≡ own_number half addressed earlier
unfolding own_number
half-number-own minimum half addressed earlier =
    half-number-with minimum half addressed earlier ∙
    number-with (is_for half addressed earlier) addressed.given (own_events half earlier)

-- ---- what is told

-- what a selector tells after its own events is by what has happened
telling-by : (own : Sequence) (number : ℕ) → telling_of number (state_after own) ≡ telling_by number (past_of own)
telling-by own number = λ j.
    record {
      answer = (demand_2_answers own).answer number j;
      codes = (demand_2_answers own).outgoing j;
      words = (demand_2_answers own).words j;
    }

pub told-own : (minimum : Quality) (half : Half) (sequence : UnitSequence)
    → tellings minimum half sequence ≡ own_tellings half sequence
unfolding tellings own_tellings
told-own minimum half (started profile) = refl
told-own minimum half (addressed following earlier) = λ j.
    ((λ k. telling_of (half-number-own minimum half addressed earlier k)
    (half-after minimum (addressed following earlier) half k)) ∙
    telling-by (own_events half (addressed following earlier)) (own_number half addressed earlier))
    j ∷ told-own minimum half earlier j

-- EACH HALF IS A SELECTOR AFTER ITS OWN EVENTS, and the demands hold of it, for every sequence of the unit's events.
pub half-right : (minimum : Quality) (half : Half) (sequence : UnitSequence) → HalfRight minimum half sequence
half-right minimum half sequence =
    let own = own_events half sequence in
    record {
      state = half-after minimum sequence half;
      number = λ addressed. half-number-own minimum half addressed sequence;
      told = told-own minimum half sequence;
      demands =
          record {
            demand1 = demand_1_events own;
            demand2 = demand_2_answers own;
            demand3 = demand_3 own;
            demand4 = demand_4 own;
            manual = manual-eligible own;
          };
    }
