-- The definitions that the contracts of `lines` cite beside the rules.
pub mod Put
