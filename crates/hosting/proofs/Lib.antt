-- Laws of the calls on bytes.
pub mod FloatLaws
pub mod ListRows
pub mod StepLaws
pub mod MoveRows
pub mod ReadRows
pub mod Examples
