pub mod Tallies
pub mod Sweeps
pub mod Report
