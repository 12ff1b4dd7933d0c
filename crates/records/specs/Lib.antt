-- Lists of cells, tables and faces as words.
pub mod Layout
pub mod Inner
