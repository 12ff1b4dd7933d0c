-- Laws of the program.
pub mod Fits
