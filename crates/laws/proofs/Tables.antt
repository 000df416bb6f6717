-- Records of the two tables: read after they were written, and those past the counts.
pub mod Stores
pub mod Records
pub mod Beyond
