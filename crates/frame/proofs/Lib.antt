-- Rows of octets; several octets as one number; the header in wide comparisons; the laws of reading and of writing; the
-- answers to demands 1 and 2; a table of frames.
pub mod Rows
pub mod Words
pub mod Header
pub mod ReadLaws
pub mod WriteLaws
pub mod Demand1
pub mod RoundTrip
pub mod Cases
