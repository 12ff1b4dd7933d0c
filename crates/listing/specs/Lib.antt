-- The lines of the key.
pub mod Lines
pub mod Inner
