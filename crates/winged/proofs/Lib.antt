-- Laws of the C interface.
pub mod Counts
pub mod Outward
pub mod Hosting
pub mod Directly
pub mod Inward
pub mod FaceBytes
pub mod FaceOutcomes
pub mod Examples
