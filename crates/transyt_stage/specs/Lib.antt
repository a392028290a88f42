pub mod Green
pub mod ThreeJunctions
pub mod WorkedGreens
