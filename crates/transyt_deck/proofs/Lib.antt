pub mod Adding
mod CardLines
pub mod CardTexts
pub mod Cutting
pub mod FeedBlocks
pub mod LinkBlocks
pub mod LinkNumbers
pub mod NamedCards
pub mod NodeBlocks
pub mod NumberTexts
pub mod ReadBack
pub mod Reading
pub mod RuleBlocks
pub mod Small
pub mod Worked
