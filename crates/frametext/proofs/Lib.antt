-- A frame's octets out of its digits, and the lines that are printed.
pub mod MessageLaws
