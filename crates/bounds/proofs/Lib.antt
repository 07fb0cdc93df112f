pub mod Asked
pub mod Terms
pub mod Sequence
pub mod Search
pub mod Filling
