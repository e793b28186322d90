-- `Watched`: the watch of the quick step as lists of numbers.
pub mod Watched
