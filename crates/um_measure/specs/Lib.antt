pub mod Measure
pub mod Reached
