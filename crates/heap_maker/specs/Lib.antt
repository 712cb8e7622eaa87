pub mod GenerationFigures
pub mod HeapSize
pub mod Shrinking
pub mod Wanted
