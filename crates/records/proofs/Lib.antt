-- Laws of records: parts of words, and what stands where in a record.
pub mod Parts
pub mod Places
