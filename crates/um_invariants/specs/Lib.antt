pub mod Acts
pub mod Described
pub mod Counts
pub mod Lines
pub mod Ready
pub mod Armings
pub mod NextSteps
pub mod InOrder
