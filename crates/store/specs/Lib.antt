-- What the contracts of `store` ask for.
pub mod Needs
