pub mod Settled
pub mod Words
