-- What each test of the header and of one shelf decides.
pub mod Header
pub mod Rows
pub mod Ending
