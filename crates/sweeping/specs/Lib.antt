-- The words of a swept table, and the answer of side_pair.
pub mod Inner
pub mod SidePairs
