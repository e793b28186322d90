-- `Heartbeats`: what is written for lines, by the questions and events before. `Answerer`: the same as the code does
-- it. `Held`: what the code carries, read so.
pub mod Heartbeats
pub mod Answerer
pub mod Held
