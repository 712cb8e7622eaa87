pub mod Timelines
pub mod Unreplayed
pub mod Texts
pub mod Imports
pub mod Upgrades
pub mod Given
pub mod Rows
