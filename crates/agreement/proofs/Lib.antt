mod Acts
mod Apart
mod Bests
pub mod Causes
pub mod Ends
mod Facts
mod Grow
pub mod Plans
pub mod Ranges
mod Runs
mod Settles
mod Verdicts
