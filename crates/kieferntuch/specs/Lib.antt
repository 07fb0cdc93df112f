pub mod Answer
pub mod Sheet
