-- A matrix makes the machine's steps. ClockLemmas is about its deadlines, TableLemmas about its rows; PairLemmas, StringLemmas, WorkLemmas and StartLemmas about what steps
-- change. OfferLemmas has which steps a thread is offered; RunLemmas is about runs, ReachLemmas about the states to which they lead.
mod AreaLemmas
mod ClockLemmas
mod TableLemmas
pub mod OfferLemmas
mod PairLemmas
mod RunLemmas
pub mod ReachLemmas
mod StartLemmas
mod StringLemmas
mod WorkLemmas
