-- The definitions that the contracts of `framing` cite beside the rules.
pub mod Kinds
