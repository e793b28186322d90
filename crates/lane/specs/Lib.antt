-- `Shown`: what is shown within a tolerance, by each millisecond. `Lane`: what the code keeps, and what it answers.
-- `History`: any sequence of things that a lane is told. `Exact`: what holds of it. `Claims`: what the tolerance means.
pub mod Shown
pub mod Lane
pub mod History
pub mod Exact
pub mod Claims
