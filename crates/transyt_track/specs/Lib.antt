pub mod Own
pub mod Due
pub mod Change
pub mod WorkedWork
pub mod Front
pub mod Tracker
