-- What the contract of `issue` asks for.
pub mod Needs
