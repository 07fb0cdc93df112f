pub mod Tasks
pub mod Trial
pub mod Planning
pub mod Bounds
pub mod Good
