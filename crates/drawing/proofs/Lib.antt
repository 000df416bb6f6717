-- The laws that the proofs of `drawing` cite, a file for each subject.
pub mod Rooms
pub mod Lines
pub mod Buckets
pub mod Shown
