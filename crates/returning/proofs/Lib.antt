-- Laws that the proofs of `returning` cite.
pub mod Laws
pub mod Cleaning
pub mod Granted
