-- Laws of the words of a swept table.
pub mod Bounds
pub mod Columns
pub mod Filling
pub mod Joining
pub mod LevelStep
pub mod LevelSteps
pub mod LevelWords
pub mod Onward
pub mod PrismFilled
pub mod PrismWords
pub mod RaisedLevel
pub mod RecordLaws
pub mod Searching
pub mod SoundTable
pub mod Stepping
pub mod SweptWords
pub mod TableWords
