-- Laws of the start of a unit.
pub mod UnitStartLaws
