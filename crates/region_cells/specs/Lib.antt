pub mod Blocks
pub mod Views
pub mod Kept
pub mod Hands
pub mod Cells
