-- `Again`: an event that says again what was said before. `Own`: what any event makes of its own input. `Watch`: what a
-- watch makes of an event. `Sequence`: any sequence of events, and the statement that a watch answers as the plain step
-- does.
pub mod Again
pub mod Own
pub mod Watch
pub mod Sequence
