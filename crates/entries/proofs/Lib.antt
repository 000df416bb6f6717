-- What the functions' tests come to, the laws of the test in one pass and in any order, what its loops turn by, and what the verdict of the tests tells.
pub mod Arms
pub mod Passes
pub mod Turns
pub mod Verdicts
