-- What is printed for an image is read back as that image. First names: EnoughNames, FreshNames, FreeNumbers and DistinctNames. Then each part of what is
-- printed is read back: PrintedLines, PrintedScripts, PrintedObjects, PrintedEntries, PrintedSections, PrintedTop, PrintedForm, and what it means: NamedAlike,
-- RoundedPartitions, PrintedFutexes, PrintedMeaning, PrintedDescription. PlainLines, PlainDocument, EntryTexts and PrintedText are of its bytes; PrintedReading and ReadBack are the laws.
pub mod Toml
pub mod EnoughNames
pub mod FreshNames
pub mod PrintedObjects
pub mod NamedAlike
pub mod PrintedLines
pub mod PrintedEntries
pub mod PlainLines
pub mod PrintedScripts
pub mod RoundedPartitions
pub mod DistinctNames
pub mod PrintedFutexes
pub mod PrintedMeaning
pub mod PrintedDescription
pub mod PrintedSections
pub mod PrintedTop
pub mod PrintedForm
pub mod PlainDocument
pub mod PrintedReading
pub mod ReadBack
mod PrintedText
mod FreeNumbers
mod EntryTexts
