-- The definitions that the contracts of `turns` cite beside the rules.
pub mod Turns
