pub mod Sizes
pub mod Valid
