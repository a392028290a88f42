pub mod Draws
pub mod Made
pub mod WorkedTowns
pub mod Works
