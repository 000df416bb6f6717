-- What the promises say, as types over the rules alone, so that it can be asked of other rules too.
pub mod Histories
pub mod Requests
pub mod Counts
pub mod Answered
pub mod Traces
pub mod Chunks
pub mod Files
pub mod Wear
pub mod Pictures
pub mod Lists
pub mod Orders
pub mod Claims
