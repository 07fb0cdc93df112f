pub mod Arrival
pub mod Check
pub mod Seek
