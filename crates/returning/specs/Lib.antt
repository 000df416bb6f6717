-- What the functions of `returning` ask of the tables.
pub mod Needs
