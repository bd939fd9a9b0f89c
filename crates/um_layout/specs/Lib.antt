pub mod Sizes
pub mod Standing
pub mod Entries
