pub mod Stands
pub mod Demand3
