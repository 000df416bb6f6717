-- Lists in the form in which they are lent, and how their elements move.
pub mod Moves
pub mod Forms
