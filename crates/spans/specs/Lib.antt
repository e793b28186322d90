-- `Spans`: what is right at a millisecond, by what has happened; the spans of a state, and that they are right.
-- `Verdict`: a lane that is told them is judged by the law.
pub mod Spans
pub mod Verdict
