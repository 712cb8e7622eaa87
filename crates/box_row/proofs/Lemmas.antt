pub mod Fields
pub mod Handles
pub mod Leases
pub mod Names
pub mod Numbers
pub mod Values
