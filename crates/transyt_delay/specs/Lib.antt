pub mod Figures
pub mod WorkedLinks
