-- What is promised of the panel's calls.
-- The header's numbers read back as they were written, each answer as it was told, and each call as a call of the rules.
pub mod Heads
pub mod ReadBack
pub mod Heard
pub mod Steps
pub mod Files
pub mod Fitting
-- Any calls: demand 3, refusals 1 and 21; over a restart; pictures.
pub mod Runs
pub mod Never
pub mod Restart
pub mod Pictures
pub mod Worked
pub mod WorkedFile
-- One outcome to each exported function.
pub mod OneOutcome
