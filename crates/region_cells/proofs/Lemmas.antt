pub mod Whole
pub mod Places
pub mod Blocks
pub mod Images
