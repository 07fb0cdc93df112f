pub mod Tab
pub mod First
pub mod Count
pub mod Largest
pub mod Smallest
pub mod Total
