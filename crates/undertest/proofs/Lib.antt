-- `Candidates`: a candidate that is not admitted does not matter to a choice. `Alike`: two states that differ in one
-- input alone. `Shown`: what is answered of them. `Taken`: an event taken by both. `UnderTest`: L14. `UnitUnderTest`:
-- L14 of the station clock unit. `CardsUnderTest`: L14 of what C holds. `Cases`: counts may differ.
pub mod Candidates
pub mod Alike
pub mod Shown
pub mod Taken
pub mod UnderTest
pub mod UnitUnderTest
pub mod CardsUnderTest
pub mod Cases
