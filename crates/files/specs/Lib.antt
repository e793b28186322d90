-- What opening a file or reading a number may answer; what printing a text comes to.
pub mod Files
pub mod Printed
