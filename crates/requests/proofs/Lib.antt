-- The tests of a request, its arms, and what it comes to with the list.
pub mod Sides
pub mod Arms
pub mod Entered
