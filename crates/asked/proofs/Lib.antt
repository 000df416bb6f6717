-- How a test gives its answer, and the range of a tally.
pub mod Answers
pub mod TallyLaws
