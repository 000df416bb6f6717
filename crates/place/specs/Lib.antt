-- What the contracts of `place` ask for and say.
pub mod Needs
pub mod Placed
