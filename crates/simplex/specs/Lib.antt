-- Signed simplices: cells, their ascending order, their faces, and lists of them.
pub mod Cell
pub mod SignWords
pub mod Order
pub mod Faces
pub mod Chain
pub mod Sort
