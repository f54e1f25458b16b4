pub mod Calls
pub mod Causes
pub mod Lists
pub mod Promise
pub mod Worlds
