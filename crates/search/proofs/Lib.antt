-- What the search turns by.
pub mod Laws
