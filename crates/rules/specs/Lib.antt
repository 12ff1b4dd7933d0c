-- What all calls share: limits, refusals, and the state of lent memory after a call.
pub mod Limits
pub mod Calls
pub mod Numbers
pub mod Shapes
