-- Files (T-01): bytes written one behind another; the bytes of a file, there and back; the tables that a file's records are stored in, that
-- the test of them asks nothing of what they held; the ways through a read, and through a text put into a lent buffer (a picture, T-07, too).
pub mod Puts
pub mod Words
pub mod Layout
pub mod Shape
pub mod Back
pub mod Bytes
pub mod Stored
pub mod Any
pub mod Saving
pub mod Ways
pub mod Repaired
