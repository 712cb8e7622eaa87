pub mod Marking
pub mod Boxes
pub mod Spread
pub mod Rounds
pub mod LiveList
pub mod Soundness
pub mod NotedPieces
