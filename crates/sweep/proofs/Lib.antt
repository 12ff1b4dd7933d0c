-- The order of the rules of the call sweep, what an accepted call tells, the words that it writes, and examples.
pub mod Order
pub mod Acceptance
pub mod CallWords
pub mod FirstOfTwo
pub mod Examples
