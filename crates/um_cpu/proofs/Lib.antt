-- A processor at a board, from its seat to its end. SplitOff has the processors before their first turn, LastTurn one of them after its last one,
-- and Gathers what the first seat knows when it takes in the others. Advances has how a processor goes on. Runs has what is known of every
-- fine run. After it, Choosing tells when a step is a chosen one, Asks what comes of asking for a step, and WholeTurns of a whole turn. Shows is
-- about the logs when all have ended. Slots says what stands there at a number. Crosses stands by itself: what may go to another thread.
pub mod Advances
pub mod Runs
pub mod Choosing
pub mod Asks
pub mod WholeTurns
pub mod Crosses
pub mod Gathers
pub mod LastTurn
pub mod Shows
pub mod Slots
pub mod SplitOff
