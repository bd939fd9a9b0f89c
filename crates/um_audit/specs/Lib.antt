pub mod Alike
pub mod Beginnings
pub mod Lines
pub mod Parts
pub mod Progress
pub mod Steps
pub mod Told
pub mod Verdict
