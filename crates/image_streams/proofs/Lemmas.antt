pub mod Known
pub mod Pieces
pub mod Counts
pub mod Reading
pub mod Drawing
pub mod Sending
pub mod Bodies
pub mod Extents
