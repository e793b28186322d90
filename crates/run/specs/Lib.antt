-- `Moments`: document 01's sentences on passed quality, as statements. `Passed`: the same, computed. `Run`: what the
-- code keeps.
pub mod Moments
pub mod Passed
pub mod Run
