mod Kept
mod Performs
mod Sittings
