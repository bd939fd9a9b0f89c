-- FormLemmas: the words of lines. NumberLemmas: what digits spell. TextLemmas: texts of more words than a question has.
pub mod FormLemmas
pub mod NumberLemmas
pub mod TextLemmas
