-- Laws of numbers in print, and of putting them into lent bytes.
pub mod HalfEven
pub mod Rounding
pub mod Ties
pub mod Digits
pub mod Coordinate
pub mod Fractions
pub mod Bounds
pub mod FieldText
pub mod Chain
pub mod Examples
