-- Laws of solids and tables.
--   Solid Neighbours Symmetric Tables Codec Tests     solids, their wings, and their words
--   Accepted OwnTable Uploaded                        what is accepted, the table of a solid, and wings in uploaded order
--   Computing FirstOfTwo Examples                     computed examples: the order of rows 6 to 11, small solids
pub mod Solid
pub mod Neighbours
pub mod Symmetric
pub mod Tables
pub mod Codec
pub mod Tests
pub mod Accepted
pub mod OwnTable
pub mod Uploaded
pub mod Computing
pub mod FirstOfTwo
pub mod Examples
