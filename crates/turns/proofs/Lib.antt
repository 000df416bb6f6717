-- The laws of a record's turn.
pub mod Answers
pub mod Payloads
pub mod Short
