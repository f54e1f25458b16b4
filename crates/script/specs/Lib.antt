pub mod Calls
pub mod Commands
pub mod Laws
pub mod Rows
pub mod Setups
pub mod Words
