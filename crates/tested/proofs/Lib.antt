-- The arms of the calls, and what a return comes to with the list.
pub mod Arms
pub mod Left
