-- The laws of the tables that stand for a file.
pub mod InspectLaws
