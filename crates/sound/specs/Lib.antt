-- What the pass over the shelves shows.
pub mod Rows
pub mod Pass
