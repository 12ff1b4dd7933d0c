-- The call sweep.
pub mod Sweep
