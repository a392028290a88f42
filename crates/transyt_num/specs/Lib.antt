pub mod Number
pub mod Root
pub mod WorkedNumbers
