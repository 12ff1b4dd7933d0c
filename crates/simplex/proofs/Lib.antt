-- Laws of signed simplices.
--   Signs Rows Each Without             products of signs; rows; a property of each element; rows less a vertex
--   Up Insert Sorting Swaps Ascending   rows that ascend, sorting, exchanges of neighbours, orientation
--   Places Removed Faces                where each vertex of the sorted row stood; a row less a vertex, sorted; the faces by position
--   Sums Counts Cancel FaceCounts       sums over signed cells and over faces; faces that cancel
--   Chains Materials                    lists compared, list order aside; the cells of one material
--   Pairs Sunk Sinking                  one entry sinks to its place
--   Front Eight Ordered                 the first entries of a row of eight put in order
--   Examples                            two signs and the places of a row, computed
pub mod Signs
pub mod Rows
pub mod Each
pub mod Without
pub mod Up
pub mod Insert
pub mod Sorting
pub mod Swaps
pub mod Ascending
pub mod Places
pub mod Removed
pub mod Faces
pub mod Sums
pub mod Counts
pub mod Cancel
pub mod FaceCounts
pub mod Chains
pub mod Materials
pub mod Pairs
pub mod Sunk
pub mod Sinking
pub mod Front
pub mod Eight
pub mod Ordered
pub mod Examples
