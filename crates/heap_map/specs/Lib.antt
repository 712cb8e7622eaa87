pub mod Bands
pub mod Cells
pub mod MapFigures
pub mod Text
