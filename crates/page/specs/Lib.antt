-- What the program key prints.
pub mod Key
pub mod Inner
