mod Deliveries
mod Lawful
pub mod Looks
pub mod Sends
mod Slots
pub mod Stages
