-- Laws of digits: of runs of them, of what they stand for, of nondigits in them, and of decimal text.
pub mod Runs
pub mod Values
pub mod Writing
pub mod Nondigits
pub mod Decimals
