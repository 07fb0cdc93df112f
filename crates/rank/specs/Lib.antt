pub mod Rank
pub mod Ceiling
pub mod Order
