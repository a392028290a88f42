pub mod Chart
pub mod Measures
pub mod Texts
pub mod WorkedCharts
pub mod WorkedMeasures
pub mod WorkedTexts
pub mod Plot
pub mod WorkedPlots
