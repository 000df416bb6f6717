-- What the contracts of `requests` say.
pub mod Entering
