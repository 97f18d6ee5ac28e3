pub mod Answers
pub mod Unavailable
pub mod Faults
pub mod Json
pub mod RegisterTrees
pub mod Trees
pub mod Writing
