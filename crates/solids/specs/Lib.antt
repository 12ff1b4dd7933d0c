-- Solids as lists of cells, their wings and their tables.
pub mod Accept
pub mod Wings
pub mod Table
pub mod Uploaded
