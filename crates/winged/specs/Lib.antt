-- What a host in C gets.
pub mod Host
pub mod Inner
