-- `Kept`: what the code keeps of any moments. `Exact`: the statements
-- and what is computed say the same.
pub mod Kept
pub mod Exact
