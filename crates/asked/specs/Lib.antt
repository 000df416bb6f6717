-- What each test of one bucket decides.
pub mod Buckets
