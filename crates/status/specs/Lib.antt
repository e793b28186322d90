-- `Status`: what is known of an input, by what has happened. `Kept`: the same by what the code keeps. `WhatHappened`:
-- both are the same after any sequence of events.
pub mod Status
pub mod Kept
pub mod WhatHappened
