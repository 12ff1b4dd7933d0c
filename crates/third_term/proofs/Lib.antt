-- The proof of the third term.
pub mod BoundarySum
pub mod OneMaterial
pub mod Decides
pub mod Coefficients
pub mod Run
pub mod ThirdTerm
pub mod Examples
