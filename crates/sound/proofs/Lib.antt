-- The laws behind the tables test: a row, and the pass as a whole.
pub mod RowLaws
pub mod PassLaws
