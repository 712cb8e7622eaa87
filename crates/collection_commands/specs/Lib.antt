pub mod Collect
pub mod Figures
pub mod Record
pub mod Verify
