pub mod Plain
pub mod Calls
pub mod Spelled
