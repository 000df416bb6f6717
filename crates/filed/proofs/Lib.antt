-- The laws of the records in a file, and of a whole file's test.
pub mod Framed
pub mod Whole
