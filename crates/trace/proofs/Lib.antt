-- The laws of a replay in chunks.
pub mod Steps
pub mod Turns
pub mod Loop
pub mod Meets
pub mod Gathered
pub mod Pieces
pub mod Fed
