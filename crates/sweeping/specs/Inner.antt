-- Definitions that serve contracts inside the library and proofs alone: nothing that a call or a theorem promises rests on them.
pub mod Across
pub mod Filling
pub mod PrismPlaces
pub mod Raising
pub mod RecordWords
pub mod SweptWords
