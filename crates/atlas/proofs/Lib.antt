-- What new and the list's test come to.
pub mod Calls
