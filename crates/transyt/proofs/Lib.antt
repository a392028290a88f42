-- The lemmas of the crate.
pub mod BudgetLaws
pub mod DeckLaws
pub mod GivenLaws
pub mod ProgramLaws
pub mod Refusals
pub mod SaidCards
pub mod TaskLaws
pub mod ValidRuns
pub mod WorkedClimbs
pub mod WorkedProgram
pub mod WorkedRuns
pub mod WorkedSteps
pub mod WorkedTasks
