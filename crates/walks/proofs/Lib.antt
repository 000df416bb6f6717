-- The laws of a walk that marks.
pub mod WalkLaws
