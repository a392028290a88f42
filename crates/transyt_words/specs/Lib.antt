-- The definitions of the crate.
pub mod Whole
pub mod Answer
pub mod Case
pub mod Plans
pub mod Audit
pub mod Counts
pub mod Equisat
pub mod Scan
pub mod WorkedAnswers
pub mod WorkedPlans
pub mod WorkedTexts
pub mod WorkedTold
