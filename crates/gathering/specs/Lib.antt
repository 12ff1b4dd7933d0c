-- The table of a list of cells, before it has wings.
pub mod Inner
