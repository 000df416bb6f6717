-- What the contracts of `drawing` ask for.
pub mod Drawable
