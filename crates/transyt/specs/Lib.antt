-- The definitions of the crate.
pub mod Numbers
pub mod Reports
pub mod Program
pub mod Tasks
pub mod Words
pub mod WorkedClimbs
pub mod WorkedProgram
pub mod WorkedWords
pub mod Version
