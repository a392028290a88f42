pub mod Codes
pub mod Syntax
pub mod WorkedLines
