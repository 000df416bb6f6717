-- Module 8: one bucket changes, and what an issue keeps.
pub mod Change
pub mod Keep
