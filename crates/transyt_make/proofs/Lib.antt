pub mod DrawLaws
pub mod FedLaws
pub mod FeedLaws
pub mod LinkLaws
pub mod NodeLaws
pub mod PlaceLaws
pub mod PlanLaws
pub mod Worked
