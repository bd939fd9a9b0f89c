-- Texts that are written piece by piece (WriteLemmas), and which names and calls a draw gives (KeptLemmas).
pub mod WriteLemmas
pub mod KeptLemmas
pub mod PartLemmas
