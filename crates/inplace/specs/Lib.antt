-- `Lists`: the state as three lists of numbers. `Own`: when each input is next due, and what a moment leaves out by it.
pub mod Lists
pub mod Own
