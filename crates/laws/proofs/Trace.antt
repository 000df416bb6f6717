-- The laws of a trace that comes in chunks.
pub mod Came
pub mod Feeding
pub mod Replaying
