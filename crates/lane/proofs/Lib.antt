-- The exactness of the stretches; what the tolerance means.
pub mod Exact
pub mod Claims
