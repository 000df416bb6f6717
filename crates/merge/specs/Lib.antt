-- What the contracts of `merge` ask for.
pub mod Needs
