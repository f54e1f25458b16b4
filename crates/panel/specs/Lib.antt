pub mod Panels
pub mod Records
pub mod Sittings
