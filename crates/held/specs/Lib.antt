-- Rows as entries.
pub mod Rows
