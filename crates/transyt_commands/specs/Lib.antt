pub mod Commands
pub mod WorkedLines
