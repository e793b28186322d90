-- Any sequence of the unit's events from a fresh start, refused ones included: the unit that the code keeps after it,
-- and what the code tells on the way. `Unit` has what document 02 says of the same sequence. Assumes nothing.
use Rattle.std.specs.Prelude.{ℕ, List, [], ◌∷◌}
use Rattle.numbers.specs.declared.quality.Quality.{Quality}
use Rattle.numbers.specs.From.{started, ◌following◌}
use Rattle.selector.specs.declared.Selector.{Selector}
use Rattle.selector.specs.Answer.{answer_of, outgoing_codes, outgoing_words}
use Rattle.unit.specs.declared.Half.{Half}
use Rattle.unit.specs.declared.Half.TheVariants as H
use Rattle.unit.specs.Kept.{Unit, UnitStepped, fresh_unit, step_unit, is_squelched, source_of}
pub use Rattle.unit.specs.Unit.{Addressed, UnitSequence, Telling, Output}

-- the selector of a half
abbrev pub half_of : Half → Unit → Selector
half_of H.Equipment unit = unit.equipment
half_of H.Station unit = unit.station

-- the number that a half answers with
abbrev pub number_of_half : Half → UnitStepped → ℕ
number_of_half H.Equipment stepped = stepped.equipment
number_of_half H.Station stepped = stepped.station

-- the unit after a sequence of events from a fresh start with a minimum
unfoldable pub unit_after : Quality → UnitSequence → Unit
unit_after minimum (started profile) = fresh_unit profile minimum
unit_after minimum (addressed following earlier) =
    (step_unit (unit_after minimum earlier) addressed.to addressed.given.event addressed.given.frame).unit

-- one selector after a sequence of the unit's events
abbrev pub half_after : Quality → Half → UnitSequence → Selector
half_after minimum half sequence = half_of half (unit_after minimum sequence)

-- the number that one selector answers an event with
unfoldable pub half_number : Quality → Half → Addressed → UnitSequence → ℕ
half_number minimum half addressed earlier =
    number_of_half half
    (step_unit (unit_after minimum earlier) addressed.to addressed.given.event addressed.given.frame)

-- what a selector tells behind a number
abbrev pub telling_of : ℕ → Selector → Telling
telling_of number state =
    record { answer = answer_of number state; codes = outgoing_codes state; words = outgoing_words state }

-- what one selector tells after each event, the latest first
unfoldable pub tellings : Quality → Half → UnitSequence → List Telling
tellings minimum half (started profile) = []
tellings minimum half (addressed following earlier) =
    telling_of (half_number minimum half addressed earlier) (half_after minimum half (addressed following earlier)) ∷
    tellings minimum half earlier

-- what the station output of a unit sends
abbrev pub station_output : Unit → Output
station_output unit = record { squelched = is_squelched unit; source = source_of unit }

-- what it sends after each event, the latest first
unfoldable pub outputs : Quality → UnitSequence → List Output
outputs minimum (started profile) = []
outputs minimum (addressed following earlier) =
    station_output (unit_after minimum (addressed following earlier)) ∷ outputs minimum earlier
