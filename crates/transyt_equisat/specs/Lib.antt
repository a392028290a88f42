pub mod Degrees
pub mod Sharing
pub mod Peaks
pub mod Balance
pub mod WorkedBalances
pub mod WorkedPeaks
