-- What the bodies that step words make of a call that the word doesn't forbid, and of one on a domain.
pub mod Taken
pub mod Edits
