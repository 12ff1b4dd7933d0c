-- Laws of tests, of shapes, and of what calls answer.
pub mod Tests
pub mod InLimits
pub mod Answers
pub mod Accepting
pub mod Refusing
pub mod Examples
