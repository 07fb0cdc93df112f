pub mod Best
pub mod Pick
pub mod Offer
pub mod Good
