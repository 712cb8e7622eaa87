pub mod Marks
pub mod OpaqueObjects
pub mod Listed
pub mod Surveyed
pub mod Sizes
pub mod Noted
