-- Wings made by pairing faces in one pass.
pub mod Inner
