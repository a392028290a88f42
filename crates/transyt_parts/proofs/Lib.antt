pub mod BelowLaws
pub mod CopyLaws
pub mod KeptLaws
pub mod PlanFacts
pub mod PlanLaws
pub mod Worked
