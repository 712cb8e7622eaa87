pub mod Calls
pub mod Replies
pub mod Tables
pub mod Bars
