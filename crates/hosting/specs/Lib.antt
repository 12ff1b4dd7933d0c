-- The calls on bytes.
pub mod Floats
pub mod Lists
pub mod Moves
pub mod Inner
pub mod Reads
