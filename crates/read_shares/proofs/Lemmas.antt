pub mod Deeds
pub mod Fields
pub mod Lending
pub mod Names
pub mod Tokens
