pub mod Weight
pub mod Spread
