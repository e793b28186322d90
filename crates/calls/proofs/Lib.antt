-- What the definitions of the calls come to; a program from turn to turn, and that what it writes is right.
pub mod CallsLaws
pub mod Answered
