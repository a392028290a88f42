pub mod Parts
pub mod Faults
pub mod Valid
pub mod Edits
pub mod EditFaults
pub mod There
pub mod WorkedFaults
pub mod WorkedNets
