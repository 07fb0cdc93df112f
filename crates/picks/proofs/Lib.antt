pub mod Bests
pub mod Cases
pub mod Columns
pub mod Picked
pub mod Started
