-- Proofs of the statements in specs/.
pub mod Computing
pub mod Sliding
pub mod MarkedKeys
pub mod Figures
pub mod Refusals
pub mod Deciding
pub mod Stacked
pub mod NeverUnsound
pub mod NoCells
pub mod UploadedOrder
pub mod Materials
pub mod Carrying
