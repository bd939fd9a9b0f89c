-- What the proofs of several functions cite: about cells and their kinds, about steps, about what a seat keeps, sees and may do next, and about
-- the opening words and cells, as tables have them.
pub mod CellKinds
pub mod CellSteps
pub mod Keeping
pub mod NextRuns
pub mod Saws
pub mod OpeningKinds
pub mod WordSteps
pub mod FirstWords
pub mod FirstCells
pub mod FromTables
