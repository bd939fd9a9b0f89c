-- That the first flaw of a description is told, and that one without a flaw means a lawful image. First lists and names: Firsts, EachLemmas, NameLemmas, KnownLemmas,
-- SeenLemmas, AgainLemmas, DuplicateLemmas, SpotLemmas; numbers: RangeLemmas, PackingLemmas, PackedLemmas, WeightLemmas, SameWeight, WithoutLimits; then KindLemmas and MeaningLemmas.
-- The files named Lawful have one part of the image each, and LawfulImage has them all.
pub mod Firsts
pub mod NameLemmas
pub mod SeenLemmas
pub mod AgainLemmas
pub mod DuplicateLemmas
mod EachLemmas
mod KnownLemmas
mod RangeLemmas
mod WeightLemmas
mod SameWeight
mod MeaningLemmas
mod PackingLemmas
mod PackedLemmas
mod SpotLemmas
pub mod WithoutLimits
mod KindLemmas
pub mod LawfulLists
pub mod LawfulRanges
pub mod LawfulLayout
pub mod LawfulObjects
pub mod LawfulDistinct
pub mod LawfulNames
pub mod LawfulDomains
pub mod LawfulBoots
pub mod LawfulBlocks
pub mod LawfulLines
pub mod LawfulScripts
pub mod PlacesApart
pub mod LawfulFutexes
pub mod LawfulImage
