mod Counting
pub mod Pairs
pub mod Indexes
mod Flags
pub mod Stepping
pub mod Openings
mod Logs
pub mod Reaches
pub mod Orders
mod Rows
pub mod Own
pub mod Countdown
mod PairLists
pub mod ImageTables
pub mod ImageSources
pub mod Books
pub mod SmallLines
pub mod Whole
pub mod GoingOn
pub mod GoingOnCounts
pub mod Shares
