-- The definitions of the crate.
pub mod Verdict
pub mod Findings
pub mod WorkedVerdicts
pub mod Certificate
