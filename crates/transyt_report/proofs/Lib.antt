pub mod ProfileLaws
pub mod Worked
pub mod WorstLaws
pub mod WorkedPlot
pub mod WorkedLink
