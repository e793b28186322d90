-- What each call for the unit leaves in the arrays that C lends, by the unit's own definitions: of each half the watch
-- that its five arrays hold, and three octets of the station output. Cited by `src/`. Assumes nothing.
use Rattle.std.specs.Prelude.{ℕ, not, cond, List, [], ◌∷◌, eqb, ltb, get_or}
use Rattle.numbers.specs.declared.quality.Quality.{Quality}
use Rattle.numbers.specs.Kind.{flag}
use Rattle.numbers.specs.Quality.{quality}
use Rattle.numbers.specs.Refusal.{accepted, argument_out_of_range}
use Rattle.numbers.specs.Profile.{profile_in}
use Rattle.selector.specs.declared.Selector.{Selector}
use Rattle.selector.specs.Answer.{answer_of}
use Rattle.due.specs.Next.{next_due}
use Rattle.events.specs.Step.{Stepped}
use Rattle.quickstep.specs.Watch.{Watch, watch_of}
use Rattle.onestep.specs.Watched.{watch_at}
use Rattle.unit.specs.declared.Half.{Half}
use Rattle.unit.specs.declared.Half.TheVariants as H
use Rattle.unit.specs.Unit.{unit_start_number}
use Rattle.unit.specs.Kept.{Unit, UnitStepped, fresh_unit, step_unit_read, squelched_by, source_by}
use Rattle.card.specs.Lent.{with_number, names_option, event_of, read_for}

-- how long a unit is in C: two cards, and eight octets
abbrev pub unit_octets : ℕ
unit_octets = 1176

-- the halves, as C numbers them
abbrev pub equipment_half : ℕ
equipment_half = 0

abbrev pub station_half : ℕ
station_half = 1

-- the half of a number, which is one of the two
unfoldable pub half_in : ℕ → Half
half_in half = cond (eqb half station_half) H.Station H.Equipment

-- the number of a half
abbrev pub number_of_to : Half → ℕ
number_of_to H.Equipment = equipment_half
number_of_to H.Station = station_half

-- what C holds of a unit: the watch of each half, and what the station output sends
pub record LentUnit : Type 0 where
  pub equipment : Watch
  pub station : Watch
  pub sent : List ℕ

-- the watch of a half
abbrev pub watch_in : Half → LentUnit → Watch
watch_in H.Equipment lent = lent.equipment
watch_in H.Station lent = lent.station

-- of what is sent: 1 where the output squelches, and its source
abbrev pub squelched_in : LentUnit → ℕ
squelched_in lent = get_or lent.sent 1 0

abbrev pub source_in : LentUnit → ℕ
source_in lent = get_or lent.sent 2 0

-- a half with what it answers behind a number and when something is next due of it; it counts no due moments
abbrev pub half_held : ℕ → Selector → Watch
half_held number state = watch_of state (next_due state) (answer_of number state) 0

-- a half after a step of its own
abbrev pub stepped_held : Stepped → Watch
stepped_held stepped = half_held stepped.number stepped.state

-- what the station output sends, by the station's selector: the minimum, 1 where it squelches, its source
unfoldable pub sent_by : Selector → Quality → List ℕ
sent_by station minimum =
    let answer = answer_of accepted station in
    let squelched = squelched_by answer station.mode station.profile minimum in
    minimum.0 ∷ flag squelched ∷ source_by squelched answer ∷ []

-- the unit that is held
abbrev pub unit_in : LentUnit → Unit
unit_in lent =
    record {
      equipment = lent.equipment.state;
      station = lent.station.state;
      minimum = quality (get_or lent.sent 0 0);
    }

-- a unit held, with what each half answers behind its number
unfoldable pub unit_held : ℕ → ℕ → Unit → LentUnit
unit_held equipment station unit =
    record {
      equipment = half_held equipment unit.equipment;
      station = half_held station unit.station;
      sent = sent_by unit.station unit.minimum;
    }

-- a unit with another number in both answers, all else as it was
abbrev pub with_numbers : LentUnit → ℕ → LentUnit
with_numbers lent number =
    record {
      equipment = with_number lent.equipment number;
      station = with_number lent.station number;
      sent = lent.sent;
    }

-- what eleven lists hold: the equipment's five, the station's five, and what is sent
unfoldable pub lent_at : List ℕ → List ℕ → List ℕ → List ℕ → List ℕ → List ℕ → List ℕ → List ℕ → List ℕ → List ℕ
    → List ℕ → LentUnit
lent_at times small wider due told stationTimes stationSmall stationWider stationDue stationTold sent =
    record {
      equipment = watch_at times small wider due told;
      station = watch_at stationTimes stationSmall stationWider stationDue stationTold;
      sent = sent;
    }

-- "otherwise 6 and no start": a fresh unit, or the unit as it was with that number in both answers; and so with a number
-- that is no option's
unfoldable pub start_lent_unit : LentUnit → ℕ → ℕ → ℕ → ℕ → LentUnit
start_lent_unit lent option provplace marks minimum =
    let profile = profile_in option provplace marks in
    let number = unit_start_number option provplace (quality minimum) in
    cond (not (names_option option)) (with_numbers lent argument_out_of_range)
    (cond (eqb number accepted) (unit_held accepted accepted (fresh_unit profile (quality minimum)))
    (with_numbers lent number))

-- what a step leaves: each half with an answer of its own
abbrev pub stepped_unit : UnitStepped → LentUnit
stepped_unit stepped = unit_held stepped.equipment stepped.station stepped.unit

-- the unit after one event with a lent frame, sent to a half; the frame is looked at for a frame event alone. A number
-- that is no half's is refused with 6 by both, and nothing happens
unfoldable pub step_lent_unit : LentUnit → ℕ → ℕ → ℕ → ℕ → ℕ → List ℕ → LentUnit
step_lent_unit lent half kind time input argument frame =
    cond (ltb station_half half) (unit_held argument_out_of_range argument_out_of_range (unit_in lent))
    (stepped_unit
    (step_unit_read (unit_in lent) (half_in half) (event_of kind time input argument) (read_for kind frame)))
