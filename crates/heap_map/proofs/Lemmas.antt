pub mod Bands
pub mod Ranges
pub mod Placed
