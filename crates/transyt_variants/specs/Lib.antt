pub mod Starts
pub mod Cycles
pub mod Kept
pub mod Needs
pub mod WorkedVariants
