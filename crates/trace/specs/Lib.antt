-- The definitions that the contracts of `trace` cite beside the rules.
pub mod Walks
pub mod Chunk
