-- What proofs above cite of words: the word of a value is read as that value.
pub mod Again
