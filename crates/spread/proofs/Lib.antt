pub mod Weight
pub mod Order
pub mod Spread
