-- The lemmas of the crate.
mod OutcomeLaws
mod LineLaws
mod Places
pub mod Worked
pub mod WorkedEnd
pub mod PartLaws
