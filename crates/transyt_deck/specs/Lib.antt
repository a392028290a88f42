pub mod Adds
pub mod Cards
pub mod Deck
pub mod State
pub mod WorkedCodes
pub mod WorkedTown
pub mod WorkedVillage
