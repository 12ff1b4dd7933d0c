-- Laws of the call read.
pub mod Order
pub mod FirstOfTwo
