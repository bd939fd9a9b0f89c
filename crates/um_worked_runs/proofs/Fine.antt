-- What the evaluation makes of a list of processors is a fine run: Indices, on lists by number, and then Lawful.
pub mod Indices
pub mod Lawful
