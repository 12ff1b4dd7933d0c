-- The call move.
pub mod Move
