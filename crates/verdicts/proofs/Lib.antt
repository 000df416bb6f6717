-- The list as rows, by the verdict of the tests, and their verdict on what a call leaves.
pub mod Lists
pub mod Next
