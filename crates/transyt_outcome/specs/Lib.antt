-- The definitions of the crate.
pub mod Ends
pub mod Outcome
pub mod RunSoFar
pub mod Runs
pub mod WorkedLimits
pub mod WorkedOutcomes
