pub mod Best
pub mod Items
pub mod Kinds
