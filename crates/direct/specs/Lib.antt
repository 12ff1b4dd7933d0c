-- The call wing from bytes to bytes where nothing refuses it.
pub mod Inner
