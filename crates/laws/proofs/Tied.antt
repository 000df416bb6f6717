-- A list of rectangles tied to the tables: what that is, an issue and a return, that it is the list's fitting, each call, and the live part of a list
-- that a call leaves.
pub mod To
pub mod Issue
pub mod Return
pub mod Fits
pub mod Calls
pub mod Live
