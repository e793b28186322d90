-- `Heartbeat`: the law, by the questions that came before. `Sender`: what the code keeps, and what it answers by that.
-- `Sequence`: any sequence of questions, as the code takes it. `Sending`: what holds of it.
pub mod Heartbeat
pub mod Sender
pub mod Sequence
pub mod Sending
