pub mod Blocks
pub mod Passes
