pub mod Planned
pub mod Exactly
pub mod ReadBack
mod Cases
