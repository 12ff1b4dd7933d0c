-- Cells, side pairs and wings of a sweep, and its table.
pub mod Cells
pub mod Sides
pub mod Wings
pub mod Swept
