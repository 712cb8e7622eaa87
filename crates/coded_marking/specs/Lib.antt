pub mod CodedHeap
pub mod Tracing
pub mod Marking
pub mod ListError
