-- What is promised of the rules.
-- Document 01's marked cases, rounding, and that one outcome meets a statement.
pub mod Cases
pub mod Rounding
pub mod Outcomes
pub mod OneOutcome
pub mod ListedOutcomes
-- Each call: sound tables after it and after any calls, when it is refused and with which number, what lies past the counts.
pub mod Exactly
pub mod Saving
pub mod Reached
pub mod Sounds
pub mod Refusals
pub mod Picks
pub mod NoPlace
pub mod TooLarge
pub mod WorkedSides
pub mod Unsaid
pub mod Never
pub mod ListedRefusals
pub mod AsBefore
pub mod Past
pub mod Found
pub mod Places
pub mod Counts
-- Files: what is written and read back, when either is refused, what stands at each place. And pictures.
pub mod Files
pub mod Repairs
pub mod Renewed
pub mod FilesRefused
pub mod FilesPlaces
pub mod Pictures
-- What a request gets, what the reading calls tell, what clear leaves.
pub mod Asked
pub mod Told
pub mod Cleared
-- A replay: what a trace starts with, what a record writes, refusals 14 and 13, the calls that are made, chunks and the lent buffer.
pub mod Framing
pub mod RecordTurns
pub mod Replays
pub mod Stops
pub mod NoAtlas
pub mod Replayed
pub mod Chunks
pub mod LinesFit
pub mod IntoBuffer
pub mod Decimals
pub mod NumbersIn
-- Any calls: the held rectangles as a list, what ties them to the tables, each call, the list that goes on fitting, and the theorem; a small history
-- computed, and what the theorem shuts out.
pub mod Invariant
pub mod StepIssue
pub mod StepReturn
pub mod Steps
pub mod Figures
pub mod KeptFits
pub mod Lists
pub mod Listing
pub mod History
pub mod Worked
pub mod WorkedRestart
pub mod WorkedList
pub mod WorkedCounts
pub mod WorkedWear
pub mod ShutOut
pub mod ReplayKept
