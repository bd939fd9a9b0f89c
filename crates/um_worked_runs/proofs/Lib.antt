-- That worked runs are runs: Sound and Complete, on what the evaluation makes of choices, and Rows, of each; Fine has the same of fine runs.
pub mod Sound
pub mod Complete
pub mod Rows
pub mod Fine
