-- The laws of the bucket store.
pub mod Adding
pub mod Laid
