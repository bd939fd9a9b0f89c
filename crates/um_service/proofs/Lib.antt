-- The services of objects. OrderLemmas is about waiters in the order of service, WakingLemmas and ToldLemmas about those who are woken,
-- PipeLemmas and StackLemmas about two kinds of objects, PreviewLemmas about what an act would answer, AwaitLemmas
-- about those who wait for no object.
mod AwaitLemmas
mod OrderLemmas
pub mod PipeLemmas
mod PreviewLemmas
mod StackLemmas
pub mod WakingLemmas
mod ToldLemmas
