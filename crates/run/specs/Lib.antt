pub mod Run
pub mod Refused
pub mod Answer
pub mod State
pub mod Brought
pub mod Seated
