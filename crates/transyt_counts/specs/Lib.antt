pub mod Rows
pub mod Counts
pub mod Progress
pub mod Exact
pub mod WorkedTables
