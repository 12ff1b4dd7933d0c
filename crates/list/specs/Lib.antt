-- The call list.
pub mod List
