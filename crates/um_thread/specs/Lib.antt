pub mod Acts
pub mod Tells
