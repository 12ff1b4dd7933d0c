-- Keys that are equal, and the buckets and classes that find them.
pub mod Inner
