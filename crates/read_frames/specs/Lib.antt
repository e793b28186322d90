-- What frames in lines say, and what is held of a line; what is read, told and handed over, turn after turn.
pub mod Frames
pub mod Turns
