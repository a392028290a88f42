pub mod StepLaws
pub mod ShownLaws
pub mod GreenLaws
