-- The lemmas of the crate.
pub mod Head
pub mod LastLine
pub mod MoreBytes
pub mod MoreLines
pub mod RunEnds
pub mod RunLaws
pub mod Written
