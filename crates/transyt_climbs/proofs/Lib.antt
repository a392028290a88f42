-- The lemmas of the crate.
pub mod DealLaws
pub mod RowLaws
pub mod BestLaws
pub mod WorkedRow
pub mod ScanLaws
pub mod WorkedLeast
