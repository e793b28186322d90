-- Numbers written and read; what the parts of the code promise one another.
pub mod Text
pub mod PutAt
