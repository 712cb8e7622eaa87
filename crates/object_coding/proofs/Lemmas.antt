pub mod Fields
pub mod Rotated
pub mod References
pub mod Fillers
pub mod Faults
pub mod Hosts
