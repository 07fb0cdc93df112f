pub mod Row
pub mod Table
pub mod Good
