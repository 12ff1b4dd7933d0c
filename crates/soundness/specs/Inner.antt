-- Definitions that serve contracts inside the library and proofs alone: nothing that a call or a theorem promises rests on them.
pub mod Certified
pub mod Hashing
pub mod Pairing
pub mod Coding
