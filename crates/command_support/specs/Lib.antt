pub mod Classes
pub mod Command
pub mod Failure
pub mod Heads
pub mod Hints
pub mod Json
pub mod Watching
