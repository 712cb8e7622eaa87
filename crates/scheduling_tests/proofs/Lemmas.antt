pub mod Nexts
pub mod Passes
pub mod Zeros
