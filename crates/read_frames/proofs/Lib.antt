-- Lines that are held and told; one turn after another, and that what is written is right.
pub mod Lines
pub mod Turns
