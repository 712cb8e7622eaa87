pub mod Tallying
pub mod Sweeping
pub mod Totals
