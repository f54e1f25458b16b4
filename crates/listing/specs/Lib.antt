pub mod Lists
pub mod Stored
pub mod Texts
