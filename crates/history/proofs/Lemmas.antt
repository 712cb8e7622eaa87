pub mod KnownBytes
pub mod Regions
mod Drained
pub mod ImageSlides
pub mod DrainedBefore
pub mod Texts
pub mod EventTexts
pub mod LineTexts
pub mod SmallLines
pub mod ScheduleTexts
pub mod Windows
pub mod CopiedOut
mod Machines
pub mod Ledgers
pub mod Following
pub mod Carrying
pub mod Copies
pub mod Replying
pub mod TextLaws
pub mod Replays
pub mod Records
