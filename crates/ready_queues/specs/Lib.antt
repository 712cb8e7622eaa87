pub mod Ready
pub mod ReadyKinds
