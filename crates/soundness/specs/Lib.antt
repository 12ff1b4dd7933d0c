-- Soundness told from the wings.
pub mod Inner
