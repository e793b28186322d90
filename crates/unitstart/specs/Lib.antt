-- OPTION PLACE MARKS MINIMUM: what the words say with which `replay_unit` is started.
pub mod Start
