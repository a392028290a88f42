-- The definitions of the crate.
pub mod Brief
pub mod Conditions
pub mod Reporter
pub mod WorkedBrief
