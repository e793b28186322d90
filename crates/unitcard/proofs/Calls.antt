-- A unit comes back from what is held of it, so calls in a row are the unit's steps in a row. Cites of the unit
-- `half-right`, `one_time_lem`, `refusals_leave_lem`, `output-right` and `independence`; of the selector `demand_2_answers` and
-- `next-right`; of the card that what holds a state after events is sound. Assumes nothing.
use Prim.Native.Nat.{ℕ, ◌<◌}
use mathlib.Core.Bool.{Bool, true, false, cond, ◌&&◌}
use mathlib.Core.List.{List, [], ◌∷◌}
use mathlib.Core.Logic.{◌≢◌}
use mathlib.Core.Path.{◌≡◌, refl, sym, ◌∙◌, ap, subst}
use native.Mathlib.Omega.{arith}
use lib.Dec.{eqb, ltb}
use lib.ListN.{get_or}
use borrow.Author.Tests.{eq-eqb, ne_eqb, lt-ltb}
use Rattle.numbers.specs.declared.Event.{Event}
use Rattle.numbers.specs.declared.quality.Quality.{Quality}
use Rattle.numbers.specs.From.{started, ◌following◌}
use Rattle.numbers.specs.Kind.{flag}
use Rattle.numbers.specs.Profile.{limits_of, last_prov_place, option_two, start_number, profile_in}
use Rattle.numbers.specs.Quality.{quality}
use Rattle.numbers.specs.Refusal.{accepted, argument_out_of_range}
use Rattle.numbers.proofs.Truth.{by_bool}
use Rattle.selector.specs.declared.Selector.{Selector}
use Rattle.selector.specs.Answer.{answer_of, outgoing_codes, outgoing_words}
use Rattle.due.specs.Next.{next_due}
use Rattle.due.proofs.Jump.{next_due-later}
use Rattle.frame.specs.Read.{read_code}
use Rattle.events.specs.Step.{step}
use Rattle.events.specs.Sequence.{state_after}
use Rattle.events.specs.Past.{recorded}
use Rattle.events.specs.Told.{answer_by}
use Rattle.events.specs.NextDue.{NextRight}
use Rattle.events.proofs.Demand2.{demand_2_answers}
use Rattle.events.proofs.Extra.{sequence-ever}
use Rattle.events.proofs.NextDue.{next-right}
use Rattle.unit.specs.declared.Half.{Half}
use Rattle.unit.specs.declared.Half.TheVariants as H
use Rattle.unit.specs.Unit.{Addressed, UnitSequence, Telling, is_minimum, unit_start_number, goes_to, own_events, own_past}
use Rattle.unit.specs.Kept.{Unit, half_step, step_unit_read, step_unit, is_squelched, source_of}
use Rattle.unit.specs.Sequence.{unit_after, half_after, half_number, tellings}
use Rattle.unit.specs.Claims.{other_half, DifferOnlyIn, SameOf}
use Rattle.unit.proofs.Halves.{half-after, half-number-own, minimum-after, half-right}
use Rattle.unit.proofs.Times.{one_time_lem, refusals_leave_lem}
use Rattle.unit.proofs.Output.{squelched-by, source-by, output-right}
use Rattle.unit.proofs.Runs.{independence}
use Rattle.quickstep.specs.Watch.{Watch}
use Rattle.card.specs.Lent.{names_option, read_for}
use Rattle.card.specs.Sound.{is_sound}
use Rattle.card.proofs.Range.{step_read-read_for}
use Rattle.card.proofs.Calls.{names-neither, lent-right}
use Rattle.card.proofs.Kept.{sound-held}
use Rattle.unitcard.specs.Lent.{LentUnit, station_half, half_in, number_of_to, watch_in, squelched_in, source_in, half_held, sent_by, unit_in, unit_held, with_numbers, start_lent_unit, stepped_unit, step_lent_unit}
use Rattle.unitcard.specs.Calls.{called_unit, unit_lent_after, half_latest_number, half_latest_by, UnitStartRight, UnitLentRight, HalfLentRight, OutputLentRight, SameLent}

-- ---- back from what is held

-- A unit that is held is that unit, whatever is answered beside it.
pub unit_in-unit_held : (equipment station : ℕ) (unit : Unit) → unit_in (unit_held equipment station unit) ≡ unit
unfolding unit_held sent_by
unit_in-unit_held equipment station unit = refl

-- the number of a half is not above the last
number_of_to-half : (to : Half) → ltb station_half (number_of_to to) ≡ false
number_of_to-half H.Equipment = refl
number_of_to-half H.Station = refl

half_in-to : (to : Half) → half_in (number_of_to to) ≡ to
unfolding half_in
half_in-to H.Equipment = refl
half_in-to H.Station = refl

-- ---- a start

-- a start is refused with 6, or not at all
refused-number : (within above : Bool)
    → cond within (cond above argument_out_of_range accepted) argument_out_of_range ≢ accepted
    → cond within (cond above argument_out_of_range accepted) argument_out_of_range ≡ argument_out_of_range
refused-number false above refused = refl
refused-number true true refused = refl
refused-number true false refused = absurd (refused refl)

unit_start_refused : (option provplace : ℕ) (minimum : Quality) → unit_start_number option provplace minimum ≢ accepted
    → unit_start_number option provplace minimum ≡ argument_out_of_range
unfolding unit_start_number start_number
unit_start_refused option provplace minimum =
    refused-number (is_minimum (profile_in option provplace 0) minimum)
    (eqb option option_two && ltb last_prov_place provplace)

-- A minimum, a place or an option that is out of range starts nothing, and any other start is where calls in a row begin.
pub unit_start_right : (lent : LentUnit) (option provplace marks minimum : ℕ)
    → UnitStartRight lent option provplace marks minimum
unfolding start_lent_unit unit_lent_after
unit_start_right lent option provplace marks minimum =
    record {
      refused = λ refused.
          by_bool (names_option option)
          (λ named.
          rw (named, ne_eqb (unit_start_number option provplace (quality minimum)) accepted refused)
          (ap (with_numbers lent) (unit_start_refused option provplace (quality minimum) refused)))
          (λ other. rw other);
      neither = λ one two. rw (names-neither option one two);
      starts = λ named starts.
          rw (named, eq-eqb (unit_start_number option provplace (quality minimum)) accepted starts);
    }

-- ---- calls in a row

-- a step of a half is the one that reads the frame always
half_step-read_for : (state : Selector) (goes : Bool) (event : Event) (frame : List ℕ)
    → half_step state goes event (read_for event.kind frame) ≡ half_step state goes event (read_code frame)
unfolding half_step step
half_step-read_for state true event frame = step_read-read_for _ event frame
half_step-read_for state false event frame = refl

-- and so is the unit's
step_unit-read_for : (unit : Unit) (to : Half) (event : Event) (frame : List ℕ)
    → step_unit_read unit to event (read_for event.kind frame) ≡ step_unit unit to event frame
unfolding step_unit step_unit_read
step_unit-read_for unit to event frame =
    let limits = limits_of unit.equipment.profile in
    let equipment = half_step-read_for unit.equipment (goes_to limits event.kind to H.Equipment) event frame in
    let station = half_step-read_for unit.station (goes_to limits event.kind to H.Station) event frame in
    λ j. record {
      equipment = (equipment j).number;
      station = (station j).number;
      unit = record { equipment = (equipment j).state; station = (station j).state; minimum = unit.minimum };
    }

-- a call on a unit that is held is a step of that unit
called-unit_held : (equipment station : ℕ) (unit : Unit) (addressed : Addressed)
    → called_unit (unit_held equipment station unit) addressed ≡
    stepped_unit (step_unit unit addressed.to addressed.given.event addressed.given.frame)
unfolding step_lent_unit
called-unit_held equipment station unit addressed =
    let event = addressed.given.event in
    let frame = addressed.given.frame in
    rw (number_of_to-half addressed.to)
    ((λ j. stepped_unit
    (step_unit_read (unit_in-unit_held equipment station unit j) (half_in-to addressed.to j) event
    (read_for event.kind frame))) ∙
    ap stepped_unit (step_unit-read_for unit addressed.to event frame))

module _ (minimum : Quality) where
  after-whole : (sequence : UnitSequence)
      → unit_lent_after minimum sequence ≡
      unit_held (half_latest_number minimum H.Equipment sequence) (half_latest_number minimum H.Station sequence)
      (unit_after minimum sequence)
  unfolding unit_lent_after unit_after half_latest_number half_number
  after-whole (started profile) = refl
  after-whole (addressed following earlier) =
      ap (λ (lent : LentUnit). called_unit lent addressed) (after-whole earlier) ∙
      called-unit_held _ _ (unit_after minimum earlier) addressed

  after-unit : (sequence : UnitSequence) → unit_in (unit_lent_after minimum sequence) ≡ unit_after minimum sequence
  after-unit sequence = ap (λ (lent : LentUnit). unit_in lent) (after-whole sequence) ∙ unit_in-unit_held _ _ _

-- a unit of other numbers in both answers
with_numbers-unit_held : (equipment station number : ℕ) (unit : Unit)
    → with_numbers (unit_held equipment station unit) number ≡ unit_held number number unit
unfolding unit_held answer_of
with_numbers-unit_held equipment station number unit = refl

-- a number that is no half's is refused with 6, and nothing happens
pub neither-half : (lent : LentUnit) (half kind time input argument : ℕ) (frame : List ℕ) → station_half < half
    → step_lent_unit lent half kind time input argument frame ≡
    unit_held argument_out_of_range argument_out_of_range (unit_in lent)
unfolding step_lent_unit
neither-half lent half kind time input argument frame above = rw (lt-ltb station_half half above)

-- CALLS IN A ROW ARE THE UNIT'S STEPS IN A ROW, for every sequence of the unit's events.
pub unit-lent-right : (minimum : Quality) (sequence : UnitSequence) → UnitLentRight minimum sequence
unit-lent-right minimum sequence =
    record {
      unit = after-unit minimum sequence;
      whole = after-whole minimum sequence;
      neither = λ half kind time input argument frame above.
          neither-half (unit_lent_after minimum sequence) half kind time input argument frame above ∙
          ap (unit_held argument_out_of_range argument_out_of_range) (after-unit minimum sequence) ∙
          sym
          (ap (λ (lent : LentUnit). with_numbers lent argument_out_of_range) (after-whole minimum sequence) ∙
          with_numbers-unit_held _ _ argument_out_of_range (unit_after minimum sequence));
    }

-- ---- each half

module _ (minimum : Quality) (half : Half) (sequence : UnitSequence) where
  abbrev own : Selector
  own = state_after (own_events half sequence)

  -- what is held of a half is its selector after its own events
  pub half-held : watch_in half (unit_lent_after minimum sequence) ≡ half_held (half_latest_number minimum half sequence) own
  unfolding unit_held
  half-held =
      ap (λ (lent : LentUnit). watch_in half lent) (after-whole minimum sequence) ∙
      go half ∙
      ap (λ (state : Selector). half_held (half_latest_number minimum half sequence) state)
      (half-after minimum sequence half)
    where
      go : (part : Half)
          → watch_in part
          (unit_held (half_latest_number minimum H.Equipment sequence) (half_latest_number minimum H.Station sequence)
          (unit_after minimum sequence))
          ≡ half_held (half_latest_number minimum part sequence) (half_after minimum part sequence)
      go H.Equipment = refl
      go H.Station = refl

  half-state : (watch_in half (unit_lent_after minimum sequence)).state ≡ own
  half-state = ap (λ (watch : Watch). watch.state) half-held

latest_by_lem : (minimum : Quality) (half : Half) (sequence : UnitSequence)
    → half_latest_number minimum half sequence ≡ half_latest_by half sequence
unfolding half_latest_number half_latest_by
latest_by_lem minimum half (started profile) = refl
latest_by_lem minimum half (addressed following earlier) = half-number-own minimum half addressed earlier

half-sound : (minimum : Quality) (half : Half) (sequence : UnitSequence)
    → is_sound (watch_in half (unit_lent_after minimum sequence)) ≡ 1
half-sound minimum half sequence =
    let own = own_events half sequence in
    let number = half_latest_number minimum half sequence in
    ap is_sound (half-held minimum half sequence) ∙
    sound-held own (half_held number (state_after own)) number refl refl
    (next_due-later (state_after own) (sequence-ever own)) (omega arith)

-- EACH HALF IN C'S HANDS IS A SELECTOR AFTER ITS OWN EVENTS, and all that holds of a half holds of it.
pub half-lent-right : (minimum : Quality) (half : Half) (sequence : UnitSequence) → HalfLentRight minimum half sequence
half-lent-right minimum half sequence =
    let told = demand_2_answers (own_events half sequence) in
    let state = half-state minimum half sequence in
    record {
      state = state;
      answer =
          ap (λ (watch : Watch). watch.answer) (half-held minimum half sequence) ∙
          told.answer (half_latest_number minimum half sequence) ∙
          ap (λ (number : ℕ). answer_by number (own_past half sequence)) (latest_by_lem minimum half sequence);
      codes = ap outgoing_codes state ∙ told.outgoing;
      words = ap outgoing_words state ∙ told.words;
      alone = state ∙ sym (lent-right (own_events half sequence)).state;
      next =
          subst (NextRight (recorded (own_events half sequence))) (sym (ap next_due state))
          (next-right (own_events half sequence));
      sound = half-sound minimum half sequence;
      half_right = half-right minimum half sequence;
      one_time = λ addressed. one_time_lem minimum half addressed sequence;
      refusals_leave = λ addressed. refusals_leave_lem minimum half addressed sequence;
    }

-- ---- the station output

module _ (minimum : Quality) (sequence : UnitSequence) where
  pub sent-of : (unit_lent_after minimum sequence).sent
      ≡ sent_by (unit_after minimum sequence).station (unit_after minimum sequence).minimum
  unfolding unit_held
  sent-of = ap (λ (lent : LentUnit). lent.sent) (after-whole minimum sequence)

  squelched-of : squelched_in (unit_lent_after minimum sequence) ≡ flag (is_squelched (unit_after minimum sequence))
  unfolding sent_by is_squelched
  squelched-of = ap (λ (sent : List ℕ). get_or sent 1 0) sent-of

  source-of : source_in (unit_lent_after minimum sequence) ≡ source_of (unit_after minimum sequence)
  unfolding sent_by is_squelched source_of
  source-of = ap (λ (sent : List ℕ). get_or sent 2 0) sent-of

-- THE STATION OUTPUT IN C'S HANDS sends what has happened says, for every sequence of the unit's events.
pub output-lent-right : (minimum : Quality) (sequence : UnitSequence) → OutputLentRight minimum sequence
output-lent-right minimum sequence =
    record {
      squelched = squelched-of minimum sequence ∙ ap flag (squelched-by minimum sequence);
      source = source-of minimum sequence ∙ source-by minimum sequence;
      output_right = output-right minimum sequence;
    }

-- ---- independence

-- the number told last
abbrev told_last : List Telling → ℕ
told_last [] = accepted
told_last (telling ∷ earlier) = telling.answer.number

latest_told : (minimum : Quality) (half : Half) (sequence : UnitSequence)
    → told_last (tellings minimum half sequence) ≡ half_latest_number minimum half sequence
unfolding tellings half_latest_number answer_of
latest_told minimum half (started profile) = refl
latest_told minimum half (addressed following earlier) = refl

same-lent : (minimum : Quality) (half : Half) (one two : UnitSequence) → SameOf minimum half one two
    → SameLent minimum half one two
same-lent minimum half one two same =
    let number : half_latest_number minimum half one ≡ half_latest_number minimum half two =
    sym (latest_told minimum half one) ∙
    ap (λ (told : List Telling). told_last told) same.told ∙
    latest_told minimum half two in
    record {
      watch =
          half-held minimum half one ∙
          (λ j. half_held (number j) (own-state j)) ∙
          sym (half-held minimum half two);
      sent = λ station.
          sent-of minimum one ∙
          (λ j. sent_by (stationed station j) (least j)) ∙
          sym (sent-of minimum two);
    }
  where
    own-state : state_after (own_events half one) ≡ state_after (own_events half two)
    own-state = sym (half-right minimum half one).state ∙ same.state ∙ (half-right minimum half two).state

    stationed : half ≡ H.Station → half_after minimum H.Station one ≡ half_after minimum H.Station two
    stationed station =
        subst (λ (part : Half). half_after minimum part one ≡ half_after minimum part two) station same.state

    least : (unit_after minimum one).minimum ≡ (unit_after minimum two).minimum
    least = minimum-after minimum one ∙ sym (minimum-after minimum two)

-- INDEPENDENCE IN C'S HANDS: commands to one selector change nothing of what is held of the other, nor in the station's
-- output where they are the equipment's.
pub lent_independent : (minimum : Quality) (half : Half) (one two : UnitSequence) → DifferOnlyIn half one two
    → SameLent minimum (other_half half) one two
lent_independent minimum half one two differ =
    same-lent minimum (other_half half) one two (independence minimum half one two differ)
