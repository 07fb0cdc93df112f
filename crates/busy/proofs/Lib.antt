pub mod Window
pub mod Releases
pub mod Level
