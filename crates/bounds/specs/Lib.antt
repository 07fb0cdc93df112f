pub mod Demand
pub mod Terms
pub mod Sequence
pub mod Bound
