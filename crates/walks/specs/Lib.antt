-- What a walk along a chain shows.
pub mod Walks
