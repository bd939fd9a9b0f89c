-- The first fault of a document's form. FirstLemmas and EmptyLists are of lists, FormLemmas of lists of faults; LawfulForm, behind them, is what a document
-- without a fault describes.
pub mod FirstLemmas
pub mod FormLemmas
pub mod EmptyLists
pub mod LawfulForm
