-- Counts and sums over lists; one chain, moves between chains, and all chains of the tables tied together.
pub mod Count
pub mod Links
pub mod Moves
pub mod Ties
