-- A processor has one next step of each kind: OneStep, from FilledIn, since what a site says and gives of a shown step doesn't depend on what
-- stood in it before (Filling). An order chooses between the kinds (Chosen). So it has one run: OneRun, by the sorts of sites (Sorts); and one
-- processor has one, whatever the order: OneWhole. MomentsKnown has what a fine run leaves of a processor, from what is known of the run
-- (LeftKnown): its sites and threads exist (SitesThere, by NamedThreads and NamedSteps), those too that it is to rouse (RousesKnown, by
-- RousesKept), and it has few objects to clean (CleaningsFew). Refusals tells when no step of a processor may follow, and when a run is over,
-- with Counts; ChoiceKnown that where one is refused none is ready, or due. StepsOn and CoreRefusals say the same of a core with tables: how it
-- goes on (SitesSet has what a step leaves of tables), and when nobody goes on. LogRoom: a log has room for what is shown. CoreTurns has what
-- comes of a processor's turn in code, CoreMoves of several turns, CoreExact what that does to the run so far, and CoreRuns how a core goes on
-- as an order of processors (OrderLemmas) picks its steps (Picked), until all halt; AloneRuns the same of one processor.
pub mod Filling
pub mod FilledIn
pub mod OneStep
pub mod Sorts
pub mod Counts
pub mod Chosen
pub mod OneRun
pub mod OneWhole
pub mod NamedSteps
pub mod NamedThreads
pub mod LeftKnown
pub mod SitesThere
pub mod CleaningsFew
pub mod RousesKept
pub mod RousesKnown
pub mod MomentsKnown
pub mod Refusals
pub mod SitesSet
pub mod StepsOn
pub mod CoreRefusals
pub mod LogRoom
mod OrderLemmas
pub mod Picked
pub mod ChoiceKnown
pub mod CoreExact
pub mod CoreTurns
pub mod CoreMoves
pub mod CoreRuns
pub mod AloneRuns
