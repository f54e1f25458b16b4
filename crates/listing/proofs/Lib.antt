mod Listings
mod Printing
mod Tables
