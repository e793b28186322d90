-- `OneChoiceLaws`: what a switch selects, and what a choice leaves. `Standing`: the switch stands exactly as document 01
-- says. `Selecting`: what is selected is right. `Again`: deciding again changes nothing.
pub mod OneChoiceLaws
pub mod Scanned
pub mod Standing
pub mod Selecting
pub mod Again
