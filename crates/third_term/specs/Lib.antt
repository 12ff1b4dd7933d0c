-- The third term, as a statement about what wing, sweep and faces answer and write.
pub mod ThirdTerm
pub mod Pairs
