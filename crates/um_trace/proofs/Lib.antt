-- Texts that are appended piece by piece, a file for each form: DigitLemmas, ListLemmas, LineLemmas, PageLemmas with ZeroLemmas.
-- WaitingLemmas is about a table that is looked up.
pub mod DigitLemmas
pub mod LineLemmas
pub mod ListLemmas
pub mod PageLemmas
pub mod WaitingLemmas
pub mod ZeroLemmas
