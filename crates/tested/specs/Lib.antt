-- What the parts of the calls ask for.
pub mod Needs
pub mod Within
