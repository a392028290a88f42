-- The lemmas of the crate.
pub mod ClimbLaws
pub mod StepLaws
pub mod WorkLaws
pub mod ShapeLaws
pub mod CostLaws
pub mod CertLaws
pub mod JudgedTexts
pub mod Worked
pub mod WorkedCommands
pub mod WorkedLowering
pub mod WorkedTrial
