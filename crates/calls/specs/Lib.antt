-- What a call of the system came to, and what `write` is lent; what was read and taken to a program's end, and that this
-- is right; what is said of the end.
pub mod Calls
pub mod Answered
pub mod Said
