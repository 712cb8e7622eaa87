pub mod Compacted
pub mod HeapBytes
pub mod Lending
pub mod LentHeap
pub mod Regions
pub mod Shares
