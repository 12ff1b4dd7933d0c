-- Numbers and lines in print, and put into lent bytes.
pub mod Decimal
pub mod Reading
pub mod Fields
pub mod Inner
