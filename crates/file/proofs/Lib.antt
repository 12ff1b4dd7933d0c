-- Laws of files.
pub mod Parts
pub mod Rows
pub mod Mark
pub mod Stores
pub mod Range
pub mod StepKinds
