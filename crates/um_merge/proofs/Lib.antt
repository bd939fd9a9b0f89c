-- Orders: a step that is the first left of its processor and has the next number of its site may come first. So each turn of the merge leaves
-- every order in reach, and when no processor has such a step, all is written. Told: what is read of steps whose events stand in a second list,
-- and what one more step adds.
pub mod Orders
pub mod Told
