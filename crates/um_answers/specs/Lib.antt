pub mod Answered
pub mod Inputs
pub mod Messages
pub mod Told
pub mod Top
pub mod Words
