-- The lemmas of the crate.
pub mod TrueLines
pub mod Onward
pub mod GivenLines
pub mod YesLaws
pub mod OwnText
pub mod Planned
pub mod Worked
pub mod CertificateLaws
pub mod WordTexts
pub mod WorkedCertificate
