-- Module 10: shelves that get more buckets, and what a grow keeps.
pub mod Widened
pub mod Keep
