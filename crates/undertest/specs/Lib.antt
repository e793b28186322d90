-- `UnderTest`: what holds of a line under test. `UnitUnderTest`: the same of the station clock unit.
-- `CardsUnderTest`: the same of what C holds. `Cases`: counts may differ.
pub mod UnderTest
pub mod UnitUnderTest
pub mod CardsUnderTest
pub mod Cases
