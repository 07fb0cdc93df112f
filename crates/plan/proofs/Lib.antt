pub mod Ordered
pub mod Trials
pub mod Covers
pub mod Exactly
pub mod Given
pub mod Broke
pub mod Turned
