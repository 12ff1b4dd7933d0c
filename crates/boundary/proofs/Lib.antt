-- Laws of boundaries.
pub mod EmptyWings
pub mod Lone
pub mod FaceWords
pub mod FaceCodec
pub mod Sizes
pub mod Walking
pub mod Order
pub mod Examples
pub mod FirstOfTwo
