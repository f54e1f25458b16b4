pub mod Laws
pub mod Refused
pub mod Rules
pub mod Rows
pub mod Weighing
