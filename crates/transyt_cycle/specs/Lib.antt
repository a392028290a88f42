pub mod Cycle
pub mod Worked
