-- The laws of written bytes, and of decimal digits.
pub mod Puts
pub mod Digits
