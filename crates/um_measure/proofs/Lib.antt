-- Each step lowers a measure, so a run ends. First sums (TotalLemmas, StoreLemmas), lines and places (LineLemmas, ScriptLemmas, PlaceLemmas, NextLemmas, SettledLemmas, IndexLemmas) and
-- threads that are no dearer (EasedLemmas, and WriteLemmas for each kind of write); MadeLemmas is what has to be shown of a step. GoesLemmas shows it of each way to go on
-- in a call, WaitLemmas of calls that may wait, and PassLemmas, LifeLemmas, StartLemmas, CleanLemmas and TimeLemmas of the other steps; StepLemmas of all. OpenLemmas is of the opening, RunLemmas of whole runs.
pub mod TotalLemmas
mod EasedLemmas
pub mod PlaceLemmas
pub mod SettledLemmas
pub mod ScriptLemmas
pub mod NextLemmas
pub mod IndexLemmas
mod LineLemmas
mod StoreLemmas
mod WriteLemmas
mod MadeLemmas
mod GoesLemmas
mod PassLemmas
mod LifeLemmas
mod StartLemmas
mod CleanLemmas
mod WaitLemmas
mod TimeLemmas
pub mod StepLemmas
pub mod OpenLemmas
pub mod RunLemmas
