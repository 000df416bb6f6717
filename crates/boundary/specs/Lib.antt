-- What a run of panel calls is.
pub mod Calls
