-- The claims of specs/, from the theorems of the promises.
mod Traces
mod Chunks
mod Files
mod Wear
mod Pictures
mod Counts
mod Orders
pub mod Claims
