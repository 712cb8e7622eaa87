pub mod Timeline
pub mod TimelineFigures
pub mod FirstCalls
pub mod Log
pub mod Page
