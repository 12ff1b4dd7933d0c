-- The call read.
pub mod Read
