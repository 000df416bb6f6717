-- Module 7: shelves merge, and what that keeps.
pub mod Merged
pub mod Keep
