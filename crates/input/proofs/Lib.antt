-- `RecordLaws`: a kind is read back; a word counts as a code. `Recalled`: what the record keeps. `Demand2`: what it passes.
-- `Cases`: document 01's replay.
pub mod RecordLaws
pub mod Recalled
pub mod Demand2
pub mod Cases
