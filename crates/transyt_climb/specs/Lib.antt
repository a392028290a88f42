pub mod Turns
pub mod Way
pub mod WorkedTurns
