pub mod Text
mod Cases
