pub mod Arriving
pub mod Steps
pub mod Rows
pub mod Pushing
pub mod Running
pub mod Together
