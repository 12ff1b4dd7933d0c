-- The call move: the order of its rules, and what it leaves.
pub mod Order
pub mod Lengths
pub mod FirstOfTwo
