-- Boundaries: of a table, of a solid, and the call faces.
pub mod Boundary
pub mod Faces
pub mod Inner
