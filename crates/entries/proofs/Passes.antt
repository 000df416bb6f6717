-- A list that comes through the pass fits the tables; and it fits exactly where each entry is admitted beside those before it.
-- Neither compares the counts of all buckets: none has more entries than references, and there are as many of the one as of the other in all.
pub mod Order
pub mod Any
pub use Order.{pass_fits}
pub use Any.{admitted_fits}
