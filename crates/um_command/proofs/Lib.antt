-- Words of a command: NumberLemmas has what std reads of digits, and OptionLemmas, behind it, what one option more gives.
pub mod NumberLemmas
pub mod OptionLemmas
