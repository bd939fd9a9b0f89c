pub mod CoreSteps
pub mod Cores
pub mod Ended
pub mod Moments
pub mod Order
pub mod PickedRun
