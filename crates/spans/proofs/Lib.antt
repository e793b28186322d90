-- The spans of a state are what a tick leaves, and so what the law answers; a lane that is told them is judged by it.
pub mod Spans
pub mod Verdict
