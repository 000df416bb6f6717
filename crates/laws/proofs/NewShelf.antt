-- Modules 4 and 5: buckets are laid, a shelf without and with its filler, and what both keep.
pub mod Laying
pub mod Laid
pub mod Buckets
pub mod Plain
pub mod Keep
pub mod Rows
pub mod Filler
