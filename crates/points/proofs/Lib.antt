-- Laws of floats in range and of their sums, of tests on lists, of copies, of moved points and their levels, and of axes that carry a step.
pub mod Finite
pub mod AllOf
pub mod EqualSums
pub mod ZeroAdded
pub mod Moved
pub mod LevelLaws
pub mod Writing
pub mod Staying
pub mod Adding
pub mod CarryingLaws
pub mod Computing
pub mod Examples
