pub mod Counts
pub mod Words
pub mod Nexts
pub mod Origins
pub mod Prefix
