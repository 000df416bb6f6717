-- The laws of a trace's bytes.
pub mod Numbers
pub mod Whole
