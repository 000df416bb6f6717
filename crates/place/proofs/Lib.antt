-- What each part of placing may ask, from sound tables.
pub mod From
pub mod Arms
