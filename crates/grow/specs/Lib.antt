-- What the functions of `grow` ask of the header and the tables.
pub mod Needs
