-- `Value`: what is judged of an answer or a port as a number, and the index of a number. `Span`: what is right from
-- when to when.
pub mod Value
pub mod Span
