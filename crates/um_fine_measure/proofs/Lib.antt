-- What fine steps do to the measure of processors and sites. Between is what goes from one to the other. Sites: WaiterLemmas (whom an act
-- wakes), RowLemmas, CellLemmas (memory and joins), ClockLemmas, SiteLemmas. Processors: ListLemmas, LeftLemmas (the steps after an event), EventLemmas,
-- ProcessorLemmas. Lines: LineLemmas and BeginLemmas, for what a line's steps cost. What all have left together: SumLemmas, SleepLists (who is put to
-- sleep on a list), WordLemmas (the flags of words, and who sleeps), PartLemmas,
-- WholeLemmas. Runs: StepLemmas, OpeningLemmas, RunLemmas, OfferLemmas (what the
-- relation with the access-matrix machine says of a processor), BoundLemmas. um_measure has sums over lists, the next place of a script, and what is left
-- from there; um_refinement has what stays on a list.
mod Between
mod WaiterLemmas
mod RowLemmas
mod CellLemmas
mod ClockLemmas
mod SiteLemmas
mod ListLemmas
mod LeftLemmas
mod EventLemmas
mod ProcessorLemmas
mod LineLemmas
mod BeginLemmas
mod SumLemmas
mod SleepLists
mod WordLemmas
mod PartLemmas
mod WholeLemmas
mod StepLemmas
mod OpeningLemmas
mod RunLemmas
mod OfferLemmas
mod BoundLemmas
