-- What the tables test on a file is over.
pub mod Inspected
