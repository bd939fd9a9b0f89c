pub mod Draws
pub mod Pieces
pub mod Description
pub mod Kept
pub mod Parts
