-- The ways through the functions of the panel, and that a refusal writes nothing.
pub mod Ways
pub mod Refused
