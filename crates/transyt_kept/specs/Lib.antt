pub mod Cell
pub mod Rows
pub mod Marked
pub mod Versions
pub mod WorkedRows
