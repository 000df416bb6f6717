-- The laws of a new shelf: the column that opens, one shelf laid, the filler, and what sound tables give.
pub mod Columns
pub mod Shelving
pub mod Filler
pub mod Granted
