-- The first step of a cell.
pub mod Wiped
