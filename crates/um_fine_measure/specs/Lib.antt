pub mod Measure
pub mod Ready
pub mod Whole
pub mod Falls
