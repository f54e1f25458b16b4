pub mod Houses
pub mod Judged
pub mod Leader
