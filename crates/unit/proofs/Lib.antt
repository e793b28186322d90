-- `UnitLaws`: what a tick comes with. `Ticks`: a tick and an event of one selector. `Halves`, `Times`,
-- `Output`, `Runs`, `Agree`, `Cases`: the theorems.
pub mod UnitLaws
pub mod Ticks
pub mod Halves
pub mod Times
pub mod Output
pub mod Runs
pub mod Agree
pub mod Cases
