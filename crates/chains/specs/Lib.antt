-- What the contracts of `chains` ask for.
pub mod Walk
