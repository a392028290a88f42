pub mod Session
pub mod WorkedSessions
