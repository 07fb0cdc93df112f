pub mod Chart
pub mod Tick
pub mod Counts
pub mod Good
pub mod Start
