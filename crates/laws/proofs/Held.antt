-- The list lent beside the tables (T-02), and lists of held rectangles: elements in and out; what holds of each entry and of each two; one more and
-- one less; the test; how many entries a bucket has; entries of two buckets; the ways through the calls, and the calls by their verdict; how
-- many entries a request leaves.
pub mod Lists
pub mod Each
pub mod Among
pub mod Test
pub mod Counts
pub mod Apart
pub mod Ways
pub mod Places
pub mod Calls
