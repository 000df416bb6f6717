-- Modules 1 to 3: rounding, constant tables of a rule, bucket counts, ids. And refusal numbers, and decimal digits.
pub mod Rounding
pub mod Values
pub mod BucketCount
pub mod Ids
pub mod Refusals
pub mod Decimal
