pub mod Moves
pub mod WorkedMoves
