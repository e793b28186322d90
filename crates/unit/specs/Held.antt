-- A unit by value, each selector's state in three arrays, read as what `Kept` speaks of. Cited by `src/held.rt`. Assumes
-- nothing.
use Rattle.selector.specs.declared.Selector.{Selector}
use Rattle.inplace.specs.Lists.{selector_at}
use Rattle.unit.specs.declared.held.StateHeld.{StateHeld}
use Rattle.unit.specs.declared.held.UnitHeld.{UnitHeld}
use Rattle.unit.specs.declared.held.UnitStartedHeld.{UnitStartedHeld}
use Rattle.unit.specs.declared.held.UnitNumbers.{UnitNumbers}
use Rattle.unit.specs.Kept.{Unit, UnitStarted, UnitStepped}

-- a selector
abbrev pub state_in : StateHeld → Selector
state_in held = selector_at held.times held.small held.wider

-- the unit
abbrev pub unit_in : UnitHeld → Unit
unit_in held =
    record { equipment = state_in held.equipment; station = state_in held.station; minimum = held.minimum }

-- a start of it
abbrev pub started_in : UnitStartedHeld → UnitStarted
started_in started = record { number = started.number; unit = unit_in started.unit }

-- after an event, with the numbers that it is answered with
abbrev pub stepped_in : UnitHeld → UnitNumbers → UnitStepped
stepped_in after numbers =
    record { equipment = numbers.equipment; station = numbers.station; unit = unit_in after }
