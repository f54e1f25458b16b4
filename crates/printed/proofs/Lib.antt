mod Columns
mod Fields
mod Kept
mod LineParts
mod Slots
mod Wrong
