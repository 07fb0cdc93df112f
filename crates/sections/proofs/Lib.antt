pub mod Blocks
pub mod Found
pub mod Broke
