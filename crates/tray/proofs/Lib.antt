pub mod Bests
mod First
mod Places
pub mod Room
