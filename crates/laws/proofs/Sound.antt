-- Sound tables: the test of them, their header, order along a chain, where shelves and buckets lie, the occupied figure, unreferenced shelves,
-- that they are of the records below the counts alone, and that unreferenced buckets have item count 0.
pub mod Test
pub mod Header
pub mod Order
pub mod Lies
pub mod Within
pub mod Figure
pub mod Unreferenced
pub mod Below
pub mod Rested
pub mod Apart
