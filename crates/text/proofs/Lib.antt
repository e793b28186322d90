-- Laws of text written from a place, of numbers in decimal, and of numbers read.
pub mod PlacedText
