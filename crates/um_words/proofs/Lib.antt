-- What a step of a row leaves.
pub mod RowsLeft
