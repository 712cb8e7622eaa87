pub mod Handles
pub mod Ownership
pub mod Places
pub mod Rows
