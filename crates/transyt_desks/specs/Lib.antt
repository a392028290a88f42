pub mod Stretches
pub mod Desks
pub mod Rounds
pub mod Batches
pub mod Lends
pub mod WorkedRounds
pub mod WorkedDesks
