-- StepLemmas: a list of events has all steps of a state. NextLemmas: the lines of a text are followed. FailureLemmas: how threads failed. MetLemmas: the states that a search met.
-- SearchLemmas: what a search through states shows of all runs. FindLemmas: a run that is shown. EndLemmas: the ways in which runs end.
pub mod StepLemmas
pub mod NextLemmas
pub mod FailureLemmas
pub mod MetLemmas
pub mod SearchLemmas
pub mod FindLemmas
pub mod EndLemmas
