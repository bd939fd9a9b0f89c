-- A drop says that this seat has to clean the object exactly where the drop begins the cleaning. LastPairs has this for the row's words, and
-- for what a recorded drop tells. Taken: the body that steps a row's word makes the call's step, and says its answer.
pub mod LastPairs
pub mod Taken
