pub mod RowLaws
pub mod PairLaws
pub mod ShownLaws
pub mod FlatLaws
pub mod IndexLaws
pub mod VersionLaws
pub mod TableLaws
pub mod WrittenLaws
