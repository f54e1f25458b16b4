mod Entries
mod Figures
mod ReadBack
mod Splits
