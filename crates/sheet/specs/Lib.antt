pub mod Fields
pub mod Sheet
