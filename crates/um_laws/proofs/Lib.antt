-- The laws over every run, a file for each: AccessLemmas, RecycleLemmas (with inheritances), ServiceLemmas, and over whole lists of events
-- OriginLemmas, LifeLemmas and HoldLemmas. ActLemmas comes before them. Theorems has the laws as the contract states them, and ObeyLemmas, last,
-- that each run obeys all of them.
mod ActLemmas
mod AccessLemmas
mod RecycleLemmas
mod OriginLemmas
mod LifeLemmas
mod HoldLemmas
mod Faces
mod TimeLemmas
mod Theorems
mod ServiceLemmas
pub mod ObeyLemmas
