-- What the contracts of `verdicts` say.
pub mod Next
