-- The definitions of the crate.
pub mod Commands
pub mod Conditions
pub mod Refusals
pub mod Report
pub mod Steps
pub mod WorkedCommands
pub mod WorkedLowering
pub mod WorkedReports
pub mod WorkedTrial
