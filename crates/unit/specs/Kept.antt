-- The unit as the code keeps it, and what it makes of an event. Cited by `src/lib.rt`, and by `src/held.rt` through
-- `Held`; `Claims` says what it comes to. Assumes nothing.
use Rattle.std.specs.Prelude.{ℕ, Bool, not, ◌&&◌, ◌||◌, cond, List, [], eqb, ltb}
use Rattle.numbers.specs.declared.Answer.{Answer}
use Rattle.numbers.specs.declared.Event.{Event}
use Rattle.numbers.specs.declared.profile.Profile.{Profile}
use Rattle.numbers.specs.declared.quality.Quality.{Quality}
use Rattle.numbers.specs.Profile.{limits_of, prov_place_of}
use Rattle.numbers.specs.Quality.{quality, prc}
use Rattle.numbers.specs.Refusal.{accepted, argument_out_of_range}
use Rattle.frame.specs.declared.FrameRead.{FrameRead}
use Rattle.frame.specs.Read.{read_code}
use Rattle.choice.specs.Rank.{rank_of}
use Rattle.selector.specs.declared.Selector.{Selector}
use Rattle.selector.specs.State.{fresh_selector}
use Rattle.selector.specs.Answer.{no_input, locked, answer_of}
use Rattle.events.specs.Given.{tick_at}
use Rattle.events.specs.Step.{Stepped, step_read}
use Rattle.unit.specs.declared.Half.{Half}
use Rattle.unit.specs.declared.Half.TheVariants as H
use Rattle.unit.specs.Unit.{is_minimum, goes_to}

-- a unit: a selector for the equipment clock, one for the station output, and the worst quality that the station output
-- still carries
pub record Unit : Type 0 where
  pub equipment : Selector
  pub station : Selector
  pub minimum : Quality

-- what an event is answered with: a number of each selector's own, and the unit after it
pub record UnitStepped : Type 0 where
  pub equipment : ℕ
  pub station : ℕ
  pub unit : Unit

-- a start of a unit: the number that it is answered with, and the unit; beside 6 no unit has started
pub record UnitStarted : Type 0 where
  pub number : ℕ
  pub unit : Unit

-- "It holds two selectors of one profile", and the minimum
abbrev pub fresh_unit : Profile → Quality → Unit
fresh_unit profile minimum =
    record { equipment = fresh_selector profile; station = fresh_selector profile; minimum = minimum }

-- a start of a profile with a minimum: "otherwise 6 and no start"; what stands beside 6 has the best quality for its
-- minimum, which is in either option's range
unfoldable pub started_unit : Profile → Quality → UnitStarted
started_unit profile minimum =
    cond (is_minimum profile minimum)
    (record { number = accepted; unit = fresh_unit profile minimum })
    (record { number = argument_out_of_range; unit = fresh_unit profile prc })

-- one selector's own step: the tick, and then the event where it goes there
unfoldable pub half_step : Selector → Bool → Event → FrameRead → Stepped
half_step state goes event read =
    let ticked = step_read state (tick_at event.time).event (read_code []) in
    cond goes (step_read ticked.state event read) ticked

-- the step of one half of a unit
abbrev pub step_of_half : Half → Selector → Profile → Half → Event → FrameRead → Stepped
step_of_half half state profile to event read =
    half_step state (goes_to (limits_of profile) event.kind to half) event read

-- one event with its frame read
unfoldable pub step_unit_read : Unit → Half → Event → FrameRead → UnitStepped
step_unit_read unit to event read =
    let profile = unit.equipment.profile in
    let equipment = step_of_half H.Equipment unit.equipment profile to event read in
    let station = step_of_half H.Station unit.station profile to event read in
    record {
      equipment = equipment.number;
      station = station.number;
      unit = record { equipment = equipment.state; station = station.state; minimum = unit.minimum };
    }

-- one event with the frame lent
unfoldable pub step_unit : Unit → Half → Event → List ℕ → UnitStepped
step_unit unit to event frame = step_unit_read unit to event (read_code frame)

-- an output squelches, by its selector's answer: the clock is not locked, or, quality mode on, what the locked clock
-- tells is worse than the minimum
abbrev pub squelched_by : Answer → Bool → Profile → Quality → Bool
squelched_by answer mode profile minimum =
    let provplace = prov_place_of profile in
    not (eqb answer.clockstate locked) ||
    (mode && ltb (rank_of provplace minimum).0 (rank_of provplace (quality answer.clockquality)).0)

-- the source identifier of an output that squelches, or doesn't
abbrev pub source_by : Bool → Answer → ℕ
source_by squelched answer = cond squelched no_input answer.selected

-- the station output squelches, by the station selector's answer
unfoldable pub is_squelched : Unit → Bool
is_squelched unit =
    squelched_by (answer_of accepted unit.station) unit.station.mode unit.station.profile unit.minimum

-- the source identifier of the station output
unfoldable pub source_of : Unit → ℕ
source_of unit = source_by (is_squelched unit) (answer_of accepted unit.station)
