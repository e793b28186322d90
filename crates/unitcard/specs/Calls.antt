-- What C's arrays hold after calls in a row from a start of a unit, each lending what the one before left: the unit after
-- the same events, so that all that holds of the unit holds of what C holds. Not cited by the code. Assumes nothing.
use Rattle.std.specs.Prelude.{ℕ, ◌<◌, true, List, ◌≢◌, ◌≡◌}
use Rattle.numbers.specs.declared.quality.Quality.{Quality}
use Rattle.numbers.specs.From.{started, ◌following◌}
use Rattle.numbers.specs.Kind.{flag}
use Rattle.numbers.specs.Quality.{quality}
use Rattle.numbers.specs.Refusal.{accepted, argument_out_of_range}
use Rattle.numbers.specs.Profile.{option_one, option_two, profile_in}
use Rattle.selector.specs.Answer.{outgoing_codes, outgoing_words}
use Rattle.due.specs.Next.{next_due}
use Rattle.events.specs.Sequence.{state_after}
use Rattle.events.specs.Past.{recorded}
use Rattle.events.specs.Told.{answer_by, codes_by, words_by}
use Rattle.events.specs.NextDue.{NextRight}
use Rattle.unit.specs.declared.Half.{Half}
use Rattle.unit.specs.declared.Half.TheVariants as H
use Rattle.unit.specs.Unit.{Addressed, UnitSequence, unit_start_number, own_events, own_past, own_number, output_by}
use Rattle.unit.specs.Sequence.{unit_after, half_number}
use Rattle.unit.specs.Claims.{HalfRight, OneTime, RefusalsLeave, OutputRight}
use Rattle.unit.specs.Kept.{fresh_unit}
use Rattle.card.specs.Lent.{names_option}
use Rattle.card.specs.Sound.{is_sound}
use Rattle.card.specs.Calls.{lent_after}
use Rattle.unitcard.specs.Lent.{LentUnit, station_half, number_of_to, watch_in, squelched_in, source_in, unit_in, unit_held, with_numbers, start_lent_unit, step_lent_unit}

-- a unit after a call
abbrev pub called_unit : LentUnit → Addressed → LentUnit
called_unit lent addressed =
    let event = addressed.given.event in
    step_lent_unit lent (number_of_to addressed.to) event.kind event.time event.input event.argument
    addressed.given.frame

-- what C holds after the calls, the latest first
unfoldable pub unit_lent_after : Quality → UnitSequence → LentUnit
unit_lent_after minimum (started profile) = unit_held accepted accepted (fresh_unit profile minimum)
unit_lent_after minimum (addressed following earlier) = called_unit (unit_lent_after minimum earlier) addressed

-- the number in a half's latest answer; a fresh unit has that of an accepted event
unfoldable pub half_latest_number : Quality → Half → UnitSequence → ℕ
half_latest_number minimum half (started profile) = accepted
half_latest_number minimum half (addressed following earlier) = half_number minimum half addressed earlier

-- the same, by what has happened
unfoldable pub half_latest_by : Half → UnitSequence → ℕ
half_latest_by half (started profile) = accepted
half_latest_by half (addressed following earlier) = own_number half addressed earlier

-- a start in C's hands: where calls in a row begin
pub record UnitStartRight (lent : LentUnit) (option provplace marks minimum : ℕ) : Type 0 where
  -- "otherwise 6 and no start": the unit is as it was, but for the numbers
  pub refused : unit_start_number option provplace (quality minimum) ≢ accepted
      → start_lent_unit lent option provplace marks minimum ≡ with_numbers lent argument_out_of_range
  -- nor does a number that is no option's start one
  pub neither : option ≢ option_one → option ≢ option_two
      → start_lent_unit lent option provplace marks minimum ≡ with_numbers lent argument_out_of_range
  -- any other start leaves a fresh unit of its profile and minimum, whatever the unit held
  pub starts : names_option option ≡ true → unit_start_number option provplace (quality minimum) ≡ accepted
      → start_lent_unit lent option provplace marks minimum ≡
      unit_lent_after (quality minimum) (started (profile_in option provplace marks))

-- calls in a row are the unit's steps in a row
pub record UnitLentRight (minimum : Quality) (sequence : UnitSequence) : Type 0 where
  pub unit : unit_in (unit_lent_after minimum sequence) ≡ unit_after minimum sequence
  pub whole : unit_lent_after minimum sequence ≡
      unit_held (half_latest_number minimum H.Equipment sequence) (half_latest_number minimum H.Station sequence)
      (unit_after minimum sequence)
  -- a number that is no half's: the unit is as it was, but for the numbers
  pub neither : (half kind time input argument : ℕ) (frame : List ℕ) → station_half < half
      → step_lent_unit (unit_lent_after minimum sequence) half kind time input argument frame ≡
      with_numbers (unit_lent_after minimum sequence) argument_out_of_range

-- a half in C's hands: the selector after its own events, and what C reads of it is what has happened to it
pub record HalfLentRight (minimum : Quality) (half : Half) (sequence : UnitSequence) : Type 0 where
  pub state : (watch_in half (unit_lent_after minimum sequence)).state ≡ state_after (own_events half sequence)
  pub answer : (watch_in half (unit_lent_after minimum sequence)).answer ≡
      answer_by (half_latest_by half sequence) (own_past half sequence)
  pub codes : outgoing_codes (watch_in half (unit_lent_after minimum sequence)).state ≡ codes_by (own_past half sequence)
  pub words : outgoing_words (watch_in half (unit_lent_after minimum sequence)).state ≡ words_by (own_past half sequence)
  -- it is the state of a card by itself after the half's own events: what is shown of the calls that only read a card
  -- holds of either half
  pub alone : (watch_in half (unit_lent_after minimum sequence)).state ≡ (lent_after (own_events half sequence)).state
  -- document 02, L3: when something is next due of that half
  pub next : NextRight (recorded (own_events half sequence)) (next_due (watch_in half (unit_lent_after minimum sequence)).state)
  -- a half that was kept is told to be sound
  pub sound : is_sound (watch_in half (unit_lent_after minimum sequence)) ≡ 1
  -- all that holds of the half, of its numbers and of what its refusals leave
  pub half_right : HalfRight minimum half sequence
  pub one_time : (addressed : Addressed) → OneTime minimum half addressed sequence
  pub refusals_leave : (addressed : Addressed) → RefusalsLeave minimum half addressed sequence

-- the station output in C's hands: by what has happened to the station's selector
pub record OutputLentRight (minimum : Quality) (sequence : UnitSequence) : Type 0 where
  pub squelched : squelched_in (unit_lent_after minimum sequence)
      ≡ flag (output_by minimum (own_past H.Station sequence)).squelched
  pub source : source_in (unit_lent_after minimum sequence) ≡ (output_by minimum (own_past H.Station sequence)).source
  pub output_right : OutputRight minimum sequence

-- "in two runs of equal length and times, differing only in the commands given to one selector, the other's answers are
-- equal": all that is held of the other is, and what is sent where the station is the other
pub record SameLent (minimum : Quality) (half : Half) (one two : UnitSequence) : Type 0 where
  pub watch : watch_in half (unit_lent_after minimum one) ≡ watch_in half (unit_lent_after minimum two)
  pub sent : half ≡ H.Station → (unit_lent_after minimum one).sent ≡ (unit_lent_after minimum two).sent
