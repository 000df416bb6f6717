-- Tests: taken apart, and what they tell.
pub mod Flags
pub mod Tells
