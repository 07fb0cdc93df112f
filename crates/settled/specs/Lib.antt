pub mod Settled
