pub mod Agreement
pub mod Idle
pub mod ReadOff
