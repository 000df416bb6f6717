-- What the functions of this crate compute.
pub mod Parts
pub mod Passes
pub mod Verdicts
