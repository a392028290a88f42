pub mod Times
pub mod Climbs
pub mod Deals
pub mod Scan
pub mod WorkedClimbs
pub mod WorkedScan
