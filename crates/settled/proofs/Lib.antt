pub mod Settled
pub mod Open
pub mod Records
pub mod Wrong
pub mod Attacked
pub mod Programs
