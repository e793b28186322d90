-- `UnitcardLaws`: the code's definitions, way by way. `Calls`: what C holds after calls in a row. `Range`: what C may
-- index by.
pub mod UnitcardLaws
pub mod Calls
pub mod Range
