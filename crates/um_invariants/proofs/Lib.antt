-- What holds of each state that a run reaches. First Facts, Cores (the parts of a state that matter), Guards, Claims and Orders (the steps of instructions);
-- then Moves: what a step can change, with Turns, MarkMoves, PairMoves, Outcomes, and StepMoves, which shows it of each step. Reached and Claimed keep the two invariants
-- at each move; Sites, SitedImages, BootClaims, Opening and Starts are of the opening, and RunMoves is of whole runs.
pub mod Facts
pub mod Cores
pub mod Guards
pub mod Claims
pub mod Orders
pub mod Moves
pub mod Turns
pub mod MarkMoves
pub mod PairMoves
pub mod StepMoves
pub mod Reached
pub mod Claimed
pub mod RunMoves
pub mod Sites
pub mod SitedImages
pub mod BootClaims
pub mod Opening
pub mod Starts
pub mod Outcomes
pub mod ThreadCounts
pub mod ThreadCells
pub mod ThreadWaits
pub mod ThreadServes
pub mod ThreadWords
pub mod ThreadFrames
pub mod ThreadPairs
pub mod ThreadSteps
mod ThreadWorks
pub mod ThreadStarts
pub mod ThreadMoves
pub mod ThreadOffers
pub mod ThreadCleans
pub mod ThreadOpens
pub mod ThreadRuns
