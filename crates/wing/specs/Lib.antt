-- The call wing.
pub mod Wing
pub mod Inner
