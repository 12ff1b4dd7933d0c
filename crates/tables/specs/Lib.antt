-- Cells and wings as the code holds them.
pub mod Inner
