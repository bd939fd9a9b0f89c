-- How the history of a board becomes a fine run. One site at a time: Entries has its steps as fine steps, SiteRuns the induction, WordRuns
-- a step of a row, a thread or a domain, CellRuns a step of a cell, OpeningRuns where these begin, Openings that a described image begins so.
-- All together: Moments has the sublists of the history by processor and by site, Granted that they are a fine run, Fine that list with its
-- step numbers, Played that history of a closed board, AtMoment that of any moment. Stood has the fine run of the moment of a look, and what
-- the word that the seat read tells of it. Alone: where there is one seat, that run has its processor's steps alone. NeverStuck: a processor
-- has a step to ask for. MarksFew: the clock has room. Hindered: which causes for making no step never come up. Waiting and Refused: what
-- holds a processor up whose site refuses. LastHolder: who cleans a row. The end: Lifts and Ordered are about the order of the logs, QuietEnd
-- and Completed about the last state, Left what the closed board has of it. For callers: Playing has what a processor's seat has while it
-- plays, Joins the lists under names when seats are joined, Chosen one list of steps for each processor. Lists and Numbers have facts of lists
-- and of sites' numbers.
pub mod Lists
pub mod Numbers
pub mod Entries
pub mod SiteRuns
pub mod WordRuns
pub mod CellRuns
pub mod OpeningRuns
pub mod Granted
pub mod Moments
pub mod Played
pub mod AtMoment
pub mod NeverStuck
pub mod Stood
pub mod Alone
pub mod Waiting
pub mod MarksFew
pub mod Hindered
pub mod Refused
pub mod Lifts
pub mod Fine
pub mod Ordered
pub mod ReadyFew
pub mod Left
pub mod QuietEnd
pub mod Completed
pub mod Openings
pub mod Chosen
pub mod Playing
pub mod Joins
pub mod LastHolder
