-- `Recorded`: raw and passed quality by the recorded events alone. `Record`: what the code keeps of one input.
-- `Demand2`: what is shown of both. `Cases`: document 01's replay.
pub mod Recorded
pub mod Record
pub mod Demand2
pub mod Cases
