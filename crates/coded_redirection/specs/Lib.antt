pub mod References
pub mod SamePlan
