-- `Columns`: numbers stored at fields of one input, and what the state is then. `Once`: numbers that stand once.
-- `Named`: a switch and a selection read back. `Turn`: a loop over the inputs in place. `Moment`: one moment.
-- `Own`: the own time of each input, and moments one after another by it.
pub mod Columns
pub mod Once
pub mod Named
pub mod Turn
pub mod Moment
pub mod Own
