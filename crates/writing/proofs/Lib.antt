-- The laws of what is written, number by number and record by record; and what a write comes to.
pub mod Words
pub mod Records
pub mod Answers
