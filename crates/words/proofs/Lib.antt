-- Laws of records, bytes, and loops over lists.
pub mod Records
pub mod Loops
pub mod Below
pub mod Bytes
pub mod Placed
pub mod Writing
