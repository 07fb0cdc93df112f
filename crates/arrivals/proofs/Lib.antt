pub mod Apart
pub mod Numbers
pub mod Order
pub mod Fine
pub mod Good
pub mod Seeking
