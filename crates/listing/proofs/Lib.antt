-- Laws of the lines of the key, and of writing them.
pub mod Bounds
pub mod Runs
pub mod FaceText
pub mod KeyText
pub mod Examples
