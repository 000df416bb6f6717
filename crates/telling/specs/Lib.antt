-- The header in lent numbers, and the answers in numbers.
pub mod Header
pub mod Told
