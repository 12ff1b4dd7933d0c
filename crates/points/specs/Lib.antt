-- Points, and the step that moves them.
pub mod Step
pub mod Levels
pub mod Carrying
pub mod Inner
