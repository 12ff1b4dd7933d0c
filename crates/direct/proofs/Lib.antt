-- Laws of the direct way.
--   WordBytes     words written as bytes, and read
--   Room          the arrays of a room are long enough
--   Directly      what is written where the call is accepted
pub mod WordBytes
pub mod Room
pub mod Directly
