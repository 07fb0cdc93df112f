pub mod Fit
pub mod Stage
pub mod Good
