pub mod Order
pub mod InRank
pub mod Ceiling
