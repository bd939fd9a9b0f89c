-- Lines of scripts, read and written. WordLemmas, NumberLemmas and LengthLemmas are of words; OptionLoop and PartLoop of what is read one after another. The files
-- named Again show that what is written is read back, LineAgain last; ReadWritable that what is read can be written.
pub mod WordLemmas
pub mod NumberLemmas
pub mod OptionLoop
pub mod PartLoop
pub mod DigitsAgain
pub mod WordAgain
pub mod NameAgain
pub mod TermAgain
pub mod LineAgain
pub mod ReadWritable
pub mod LengthLemmas
