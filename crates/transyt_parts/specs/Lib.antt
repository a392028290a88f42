pub mod Parts
pub mod Valid
pub mod WorkedParts
pub mod WorkedPlans
pub mod Made
pub mod Plan
pub mod Ranges
