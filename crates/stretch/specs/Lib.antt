pub mod Stretch
pub mod Push
