-- What is printed for a frame in a line of digits.
pub mod Message
