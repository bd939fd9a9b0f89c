-- Facts of the parts of steps: ActLemmas, ByteLemmas, RegionLemmas, SizeLemmas. OrderLemmas is about the steps of an instruction,
-- PaddedLemmas about tables of which the last rows are blank, TimeLemmas about deadlines.
mod ActLemmas
mod ByteLemmas
pub mod OrderLemmas
pub mod PaddedLemmas
pub mod RegionLemmas
pub mod SizeLemmas
mod TimeLemmas
