pub mod Text
pub mod TextLines
pub mod Tokens
pub mod Words
pub mod Parsing
pub mod ImageBytes
pub mod TextBytes
