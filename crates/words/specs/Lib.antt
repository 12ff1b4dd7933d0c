-- Numbers and floats as bytes.
pub mod Records
pub mod Bytes
pub mod Text
pub mod Inner
