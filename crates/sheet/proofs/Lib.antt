pub mod Fields
pub mod Bytes
pub mod Words
pub mod Read
pub mod ReadBack
