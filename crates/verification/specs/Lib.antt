pub mod Difference
pub mod Tally
pub mod Verdict
pub mod Explanation
pub mod Compared
pub mod Searched
pub mod OtherPrefix
