-- An audit follows the lines of a text. LineLemmas and AlikeLemmas are about texts and their lines; StepLemmas has which line a step says,
-- OneLemmas that a line leads to one state, ProgressLemmas how far lines were followed. PartLemmas and WholeLemmas are about a run's text in
-- lines, LawLemmas has the law that a text has one verdict. DivisionLemmas stands by itself: the parts of what `audit` reads.
pub mod LineLemmas
pub mod AlikeLemmas
pub mod ProgressLemmas
pub mod StepLemmas
pub mod OneLemmas
pub mod PartLemmas
pub mod WholeLemmas
pub mod LawLemmas
pub mod DivisionLemmas
