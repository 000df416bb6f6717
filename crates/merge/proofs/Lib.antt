-- What merging may ask, and the first run over the shelves.
pub mod First
pub mod Laws
