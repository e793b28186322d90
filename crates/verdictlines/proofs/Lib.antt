-- `StoppedLaws`: what is left of whether writing goes on. `ToldLaws`: what the lanes are told, a law for each way through. `BenchLaws`: the same of what is carried from line
-- to line. `Quick`: the quick way of a shown line. `ShownLaws`: what a shown line says, a law for each way.
-- `LinesLaws`: the same of what a line is taken for, and the lines one after another. `Quiet`: an event that changes
-- nothing that shows. `Carried`: what is carried of the log is what its own lines make of it.
pub mod StoppedLaws
pub mod ToldLaws
pub mod BenchLaws
pub mod Quick
pub mod ShownLaws
pub mod LinesLaws
pub mod Quiet
pub mod Carried
