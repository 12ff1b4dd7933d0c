-- Laws of prisms and of sweeps.
pub mod SideLaws
pub mod Prism
pub mod Level
pub mod SweptSums
pub mod PrismCounts
pub mod Decode
pub mod FaceBounds
pub mod FaceKinds
pub mod Pairs
pub mod SweptRows
pub mod SweptEach
pub mod SweptMaterials
pub mod Meeting
pub mod SweptSolid
pub mod SweptWings
pub mod SweptTable
pub mod Examples
