pub mod BalancedLaws
pub mod BareLaws
pub mod CycleLaws
pub mod StartLaws
pub mod ValidLaws
pub mod Worked
