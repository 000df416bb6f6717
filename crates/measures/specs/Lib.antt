-- What the contracts of `shelf` ask for.
pub mod Needs
