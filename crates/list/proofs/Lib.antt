-- The order of the rules of the call list.
pub mod Order
pub mod FirstOfTwo
