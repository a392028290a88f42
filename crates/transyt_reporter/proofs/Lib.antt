-- The lemmas of the crate.
pub mod Answered
pub mod BriefLaws
pub mod CardLaws
pub mod CertifyLaws
pub mod ClimbTexts
pub mod ClimbWay
pub mod CountLaws
pub mod JudgedLaws
pub mod MoveLaws
pub mod OpenedLaws
pub mod ReadyLaws
pub mod ToldLaws
pub mod WorkedBrief
