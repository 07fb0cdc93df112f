pub mod Job
pub mod Release
pub mod Unit
pub mod Owed
pub mod Good
