-- What the proofs of several functions cite.
pub mod ByteLemmas
pub mod Celled
pub mod Fronts
pub mod HeapLemmas
pub mod Parting
pub mod Noted
pub mod PlacedLemmas
pub mod Places
pub mod Scheduled
pub mod Tabled
pub mod TextLemmas
pub mod WordActs
pub mod Looked
pub mod Told
pub mod Timing
pub mod ListedMarks
