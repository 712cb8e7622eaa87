pub mod Answered
pub mod Crossing
pub mod Held
pub mod Kept
pub mod Lent
pub mod Numbered
pub mod Shares
pub mod Checks
