-- `Unit`: the station clock unit as document 02 has it, by what has happened. `Kept`: what the code keeps and answers.
-- `Held`: the same in arrays by value. `Sequence`: any sequence of events, as the code takes it. `Claims`: what holds.
-- `Cases`: starts, computed.
pub mod Unit
pub mod Kept
pub mod Held
pub mod Sequence
pub mod Claims
pub mod Cases
