-- Laws of the matching kernel.
pub mod Chains
pub mod Classing
pub mod Earlier
pub mod KeptRows
pub mod LastBelow
pub mod Links
pub mod Parting
pub mod Quotients
pub mod Refining
pub mod Weights
