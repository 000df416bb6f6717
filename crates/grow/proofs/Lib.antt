-- Laws that the proofs of `grow` cite.
pub mod Widening
pub mod Granted
