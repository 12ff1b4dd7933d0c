-- Laws of the call wing.
--   Order Acceptance Lengths      the order of its rules, and what an accepted call tells
--   Ranks UploadedRows             the wings in uploaded order, as the code finds them
--   FirstOfTwo                    computed examples
pub mod Order
pub mod Acceptance
pub mod Lengths
pub mod Ranks
pub mod UploadedRows
pub mod FirstOfTwo
