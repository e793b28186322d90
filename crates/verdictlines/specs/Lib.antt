-- `Told`: what the lanes are told by the program. `Bench`: what it carries from line to line, and what an event does.
-- `Shown`: a shown line, and what it says. `Lines`: what a line is taken for, and what lines do one after another.
-- `Stopped`: what is left of whether writing goes on.
-- `Quiet`: an event that changes nothing that shows. `Carried`: what is carried of the log is what its own lines make.
pub mod Told
pub mod Bench
pub mod Shown
pub mod Lines
pub mod Stopped
pub mod Quiet
pub mod Carried
