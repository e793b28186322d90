-- Qualities; the two profiles; codes and words; what comes from a fresh start; the sixteen inputs; kinds of event;
-- numbers of refusal, rows with such numbers and the smallest that applies; two tests that give the same; the table of
-- codes.
pub mod Quality
pub mod Profile
pub mod Codes
pub mod Recorded
pub mod From
pub mod Inputs
pub mod Kind
pub mod Refusal
pub mod Rows
pub mod Truth
pub mod Cases
