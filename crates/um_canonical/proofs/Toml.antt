-- That plain texts of toml's writer are read back by its parser. Strings, Values and Nodes first, then Lines and Runs: what the lines make of a table; Lookups and
-- Ascii are of the whole, and Sample is a text that was read.
pub mod Strings
pub mod Nodes
pub mod Values
pub mod Lines
pub mod Runs
pub mod Lookups
pub mod Ascii
pub mod Sample
