pub mod Deed
pub mod Fraction
pub mod Parts
pub mod ReadShare
pub mod Term
