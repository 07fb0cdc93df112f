pub mod Blocking
pub mod Section
pub mod Good
