pub mod CountLaws
pub mod LookLaws
pub mod OnwardLaws
pub mod TurnLaws
pub mod LocalLaws
pub mod WayLaws
pub mod CountedLaws
pub mod WorkedLaws
