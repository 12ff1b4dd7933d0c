-- A table without wings, and what it is once it has them.
--   BlankTables       its records
--   Blanks            a record written in its parts
--   SortedCells       a cell read and sorted
--   FineCells         a cell tested as it is read
--   Ranks             a row put in order by rank
--   RankCounts        ranks counted and written
--   Scattered         its entries written by rank, one after the other
--   Assembled         fine, linked and apart, it is the table of the list
pub mod BlankTables
pub mod Blanks
pub mod SortedCells
pub mod FineCells
pub mod Ranks
pub mod RankCounts
pub mod Scattered
pub mod Assembled
