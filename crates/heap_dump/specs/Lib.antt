pub mod ImportFigures
pub mod Requested
pub mod Listing
pub mod ClassNames
pub mod Totals
pub mod Weak
