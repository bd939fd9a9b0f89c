-- Runs with equal texts are equal. First texts: PlainLemmas, SplitLemmas, NameLemmas, ActLemmas, TextLemmas; who is named by them: IdentityLemmas, AddressLemmas, PlaceLemmas, OwnLemmas.
-- StateLemmas, FitLemmas, KeptLemmas and OpeningLemmas have what holds in each state; CoreLemmas, SaidLemmas and AfterLemmas what of a state matters. MarkLemmas, RowLemmas, ReadLemmas,
-- DropLemmas and StepLemmas compare two steps, and RunLemmas two runs. DumpLemmas stands by itself: states that agree in all that a dump reads are printed alike.
pub mod PlainLemmas
pub mod SplitLemmas
pub mod NameLemmas
pub mod ActLemmas
pub mod TextLemmas
pub mod IdentityLemmas
pub mod StateLemmas
pub mod OwnLemmas
pub mod FitLemmas
pub mod KeptLemmas
pub mod OpeningLemmas
pub mod CoreLemmas
pub mod SaidLemmas
pub mod AfterLemmas
pub mod PlaceLemmas
pub mod AddressLemmas
pub mod MarkLemmas
pub mod RowLemmas
pub mod ReadLemmas
pub mod DropLemmas
pub mod StepLemmas
pub mod CellLemmas
pub mod RunLemmas
pub mod DumpLemmas
