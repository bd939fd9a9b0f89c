-- Each call keeps the rule of a board. Sublists and Bare come first; then Lawful, Keeps and Moves, about a step; TurnCells and Transfers, about
-- cells; Joining, about seats. Lives, last, is the law that an object is cleaned once in each life.
pub mod Sublists
pub mod Bare
pub mod Keeps
pub mod Joining
pub mod Transfers
pub mod TurnCells
pub mod Moves
pub mod Lawful
pub mod Lives
