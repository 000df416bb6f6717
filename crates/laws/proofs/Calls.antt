-- The calls: what the search and the merge rule mean, the ways through them, an accepted request, what each keeps, that sound tables stay so, what
-- lies past the counts, and how the code takes a test and gives an answer.
pub mod Found
pub mod Runs
pub mod Ways
pub mod Request
pub mod Empty
pub mod Keep
pub mod Stay
pub mod Past
pub mod Arms
pub mod Frames
