pub mod CellNames
pub mod Cells
pub mod Ranges
pub mod Refused
pub mod Tables
