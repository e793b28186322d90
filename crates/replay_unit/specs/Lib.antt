-- What is said where the unit does not start.
pub mod Said
