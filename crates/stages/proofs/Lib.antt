pub mod Fitting
pub mod Placing
pub mod Broke
