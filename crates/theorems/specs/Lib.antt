-- Statements about the whole: the marked keys, and further examples. Their proofs compute both sides, but for NeverUnsound
-- and laws in NoCells, UploadedOrder and Materials.
pub mod Shorthand
pub mod MarkedKeys
pub mod Figures
pub mod Refusals
pub mod Deciding
pub mod Stacked
pub mod NeverUnsound
pub mod NoCells
pub mod UploadedOrder
pub mod Materials
pub mod Carrying
